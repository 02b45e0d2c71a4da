use Rattle.std.proofs.Common.{◌-◌, ◌^◌, ◌≤◌}
use Rattle.space_compact.proofs.Costs.{AreFewSteps}
use Rattle.space_compact.proofs.PinMarks.{PinsBelow}
use Rattle.space_compact.proofs.pinning.pin_kept.Given as goal

-- the objects of style K so far pinned their children, in at most one step each
abbrev pub invariant-objects : goal.invariant-objects
invariant-objects g l = record {
  pins : PinsBelow l.fn.heap l.heap l.from;
  within : l.from ≤ 2 ^ 29;
  cost : AreFewSteps l.fn.heap l.from l.fn.steps l.steps;
}

abbrev pub decreases-objects : goal.decreases-objects
decreases-objects g l = 2 ^ 29 - l.from
