use Rattle.space_engine.proofs.ChangeTurns.{turn_stored}
use Rattle.space_engine.proofs.ObjectCommands.{store_done, store_refused}
use Rattle.space_engine.proofs.engine.Engine.store.Goals as goal

pub returns-in-Ok-clause-answers : goal.returns-in-Ok-clause-answers
returns-in-Ok-clause-answers c = λ s h.
    rw c.put_field.ensures
    (store_done c.args.self.now s h c.args.object.now c.args.index c.args.value.now c.in-Ok.address c.in-Ok.word c.requires
    c.in-Ok.ensures.field (c.in-Ok.ensures.written s h))

pub returns-in-Ok-clause-turn : goal.returns-in-Ok-clause-turn
returns-in-Ok-clause-turn c =
    rw c.put_field.ensures (turn_stored c.args.self.now.heap c.in-Ok.address c.args.index c.in-Ok.word c.in-Ok.ensures.there)

pub returns-in-Err-clause-answers : goal.returns-in-Err-clause-answers
returns-in-Err-clause-answers c =
    λ s h. store_refused c.args.self.now s h c.args.object.now c.args.index c.args.value.now c.in-Err.why (c.in-Err.ensures.written s h)
