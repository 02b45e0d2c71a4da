use Rattle.std.proofs.Common.{◌≡◌, ◌+◌, ◌-◌, ◌*◌}
use Rattle.space_tracing.specs.Marking.{GoesOn}
use Rattle.space_tracing.proofs.tracing.drain.Given as goal

-- so many scans were made
abbrev pub invariant-scans : goal.invariant-scans
invariant-scans g l = record { goes_on : GoesOn l.fn.heap l.heap l.scans; ticks : l.steps ≡ l.fn.steps + l.scans }

abbrev pub decreases-scans : goal.decreases-scans
decreases-scans g l = 1638 * 4096 - l.scans
