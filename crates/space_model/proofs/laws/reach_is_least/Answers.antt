use Rattle.std.proofs.Common.{◌≡◌, true}
use Rattle.space_model.specs.Graph.{IsChild}
use Rattle.space_model.specs.Reach.{IsStart}
use Rattle.space_model.proofs.Reaching.{IsReached-start, IsReached-closed, IsReached-least}
use Rattle.space_model.proofs.laws.reach_is_least.Goals as goal

pub returns-clause-starts : goal.returns-clause-starts
returns-clause-starts c = λ s name start. IsReached-start (IsChild s.graph) (IsStart s) name start

pub returns-clause-closed : goal.returns-clause-closed
returns-clause-closed c = λ s parent name reached child. IsReached-closed (IsChild s.graph) (IsStart s) parent name reached child

pub returns-clause-least : goal.returns-clause-least
returns-clause-least c = λ s test starts closed name reached. IsReached-least (IsChild s.graph) (IsStart s) (λ n. test n ≡ true) closed starts name reached
