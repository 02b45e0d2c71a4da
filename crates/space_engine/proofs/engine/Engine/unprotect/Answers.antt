use Rattle.space_engine.proofs.ChangeTurns.{turn_unprotected}
use Rattle.space_engine.proofs.ObjectCommands.{unprotect_done, unprotect_refused}
use Rattle.space_engine.proofs.engine.Engine.unprotect.Goals as goal

pub returns-in-Ok-clause-answers : goal.returns-in-Ok-clause-answers
returns-in-Ok-clause-answers c = λ s h.
    rw c.put_unprotected.ensures (unprotect_done c.args.self.now s h c.args.object.now c.in-Ok.address (c.in-Ok.ensures.address s h))

pub returns-in-Ok-clause-turn : goal.returns-in-Ok-clause-turn
returns-in-Ok-clause-turn c = rw c.put_unprotected.ensures (turn_unprotected c.args.self.now.heap c.in-Ok.address c.in-Ok.ensures.there)

pub returns-in-Err-clause-answers : goal.returns-in-Err-clause-answers
returns-in-Err-clause-answers c = λ s h. unprotect_refused c.args.self.now s h c.args.object.now c.in-Err.why (c.in-Err.ensures.address s h)
