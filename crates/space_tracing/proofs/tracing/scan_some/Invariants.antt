use Rattle.std.proofs.Common.{◌≡◌, ◌+◌, ◌-◌, ◌*◌, ◌≤◌}
use Rattle.space_tracing.specs.Scans.{scans}
use Rattle.space_tracing.specs.Marking.{GoesOn}
use Rattle.space_tracing.proofs.tracing.scan_some.Given as goal

-- so many scans were made
abbrev pub invariant-scans : goal.invariant-scans
invariant-scans g l = record {
  few : l.made ≤ l.count;
  small : l.made ≤ 1638 * 4096;
  so_far : l.heap ≡ scans l.made l.fn.heap;
  goes_on : GoesOn l.fn.heap l.heap l.made;
  ticks : l.steps ≡ l.fn.steps + l.made;
}

abbrev pub decreases-scans : goal.decreases-scans
decreases-scans g l = l.count - l.made
