use Rattle.space_model.proofs.ExitLaws.{exit_there}
use Rattle.space_model.proofs.LeftByExit.{exit_leaves}
use Rattle.space_model.proofs.laws.exit_leaves_nothing.Goals as goal

pub returns-clause-leaves : goal.returns-clause-leaves
returns-clause-leaves c = exit_leaves

pub returns-clause-possible : goal.returns-clause-possible
returns-clause-possible c = exit_there
