-- A page takes no memory where there are as many as may be, since sweeps bring none and take none away.
use Rattle.std.proofs.Common.{ap, Err}
use Rattle.space_model.specs.Layout.{pool_for}
use Rattle.space_engine.proofs.NewTurns.{limit_after}
use Rattle.space_engine.proofs.engine.Engine.allocate_at_limit.Goals as goal

pub unreachable-requires : goal.unreachable-requires
unreachable-requires c =
    let a = c.args in
    let lacks = c.in-Err-NoMemory.ensures in
    (lacks.no_memory (ap Err c.in-Err-NoMemory.field-0-is)).below
    (limit_after a.self.now c.allocate_for_root.new.self (pool_for a.fields) lacks.failed lacks.work c.requires.limit)
