use Rattle.std.proofs.Common.{sym, subst}
use Rattle.space_engine.specs.Turns.{IsWithinTurns}
use Rattle.space_engine.specs.Views.{View}
use Rattle.space_engine.proofs.Openings.{opening_within}
use Rattle.space_engine.proofs.space.Space.new.Goals as goal

pub invariant_of-result : goal.invariant_of-result
invariant_of-result c = subst (λ (v : View). IsWithinTurns v.heap 0) (sym c.in_ok-engine.ensures.view) (opening_within c.args.limit)
