-- An allocation after sweeps is one piece of work.
use Rattle.space_engine.proofs.NewTurns.{work_made}
use Rattle.space_engine.proofs.engine.Engine.allocate_for_root.Goals as goal

pub returns-clause-work : goal.returns-clause-work
returns-clause-work c =
    let a = c.args in
    let made = c.in_ok-made.made in
    let swept = c.sweep_until_free in
    rw (← c.self.view_is, c.hold.ensures)
    (work_made swept.new.heap c.allocate.new.self a.fields a.guard a.style made.name made.address c.in_ok-made.ensures.allocated
    c.self.inside.heap swept.ensures.rest swept.ensures.most swept.ensures.quiescent)
