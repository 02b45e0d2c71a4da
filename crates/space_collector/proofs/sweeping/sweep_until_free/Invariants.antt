use Rattle.std.proofs.Common.{length}
use Rattle.space_collector.proofs.NeededSweeps.{SweepsSome}
use Rattle.space_collector.proofs.sweeping.sweep_until_free.Given as goal

abbrev pub invariant-pages : goal.invariant-pages
invariant-pages l = SweepsSome l.fn.heap l.fn.finals l.pool l.heap l.finals

abbrev pub decreases-pages : goal.decreases-pages
decreases-pages l = length l.heap.unswept
