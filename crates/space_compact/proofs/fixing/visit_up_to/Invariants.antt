use Rattle.std.proofs.Common.{◌≡◌, ◌+◌, ◌-◌, ◌≤◌}
use Rattle.space_compact.specs.Visits.{Visits}
use Rattle.space_compact.proofs.Costs.{AreFewSteps}
use Rattle.space_compact.proofs.fixing.visit_up_to.Given as goal

-- so many visits were made, each of an object of its own
abbrev pub invariant-visits : goal.invariant-visits
invariant-visits g l = record {
  made : Visits l.slots l.fn.heap l.heap;
  most : l.slots ≤ l.n;
  cost : AreFewSteps l.fn.heap l.heap.cursor 0 l.slots;
  ticks : l.steps ≡ l.fn.steps + l.slots;
}

abbrev pub decreases-visits : goal.decreases-visits
decreases-visits g l = l.n - l.slots
