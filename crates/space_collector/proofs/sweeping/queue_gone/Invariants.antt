use Rattle.std.proofs.Common.{ℕ, ◌+◌, ◌-◌, ◌*◌, length}
use Rattle.space_model.specs.Layout.{page_bytes}
use Rattle.space_collector.proofs.GoneOnPages.{IsQueuedBelow}
use Rattle.space_collector.proofs.sweeping.queue_gone.Given as goal

-- the finalizers of the gone objects below the address were queued
abbrev pub invariant-gone : goal.invariant-gone
invariant-gone l = IsQueuedBelow l.heap l.page l.fn.finals l.from l.finals

abbrev pub decreases-gone : goal.decreases-gone
decreases-gone l = page_bytes * (length l.heap.pages + 1) - l.from
