use Rattle.space_engine.proofs.ObjectCommands.{raw_store_done, raw_store_refused}
use Rattle.space_engine.proofs.TurnLaws.{turn_written}
use Rattle.space_engine.proofs.engine.Engine.raw_store.Goals as goal

pub returns-in-Ok-clause-answers : goal.returns-in-Ok-clause-answers
returns-in-Ok-clause-answers c = λ s h.
    rw c.put_raw_field.ensures
    (raw_store_done c.args.self.now s h c.args.object.now c.args.index c.args.value.now c.in-Ok.address c.in-Ok.word c.requires
    c.in-Ok.ensures.unprotected (c.in-Ok.ensures.written s h))

pub returns-in-Ok-clause-turn : goal.returns-in-Ok-clause-turn
returns-in-Ok-clause-turn c = rw c.put_raw_field.ensures (turn_written c.args.self.now.heap c.in-Ok.address c.args.index c.in-Ok.word)

pub returns-in-Err-clause-answers : goal.returns-in-Err-clause-answers
returns-in-Err-clause-answers c =
    λ s h. raw_store_refused c.args.self.now s h c.args.object.now c.args.index c.args.value.now c.in-Err.why (c.in-Err.ensures.written s h)
