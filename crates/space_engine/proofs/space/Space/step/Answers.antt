-- A step that was written whole, and one that was cut off.
use Rattle.std.proofs.Common.{◌+◌, true}
use Rattle.space_engine.proofs.Stepping.{steps_done, steps_fault}
use Rattle.space_engine.proofs.space.Space.step.Goals as goal

pub returns-in-Ok-clause-done : goal.returns-in-Ok-clause-done
returns-in-Ok-clause-done g c = rw (← c.self.view_is)
    (steps_done (record { parts = c.self.inside.engine; turns = c.self.inside.turns; is_spent = c.self.inside.is_spent })
    (record { parts = c.step.new.self; turns = c.self.inside.turns + 1; is_spent = c.self.inside.is_spent })
    _ c.requires.given _ _ _ _ _ c.in-Ok.ensures.done)

pub returns-in-Err-clause-fault : goal.returns-in-Err-clause-fault
returns-in-Err-clause-fault g c = rw (← c.self.view_is)
    (steps_fault (record { parts = c.self.inside.engine; turns = c.self.inside.turns; is_spent = c.self.inside.is_spent })
    (record { parts = c.step.new.self; turns = c.self.inside.turns + 1; is_spent = true })
    _ c.requires.given _ _ c.in-Err.ensures.fault)
