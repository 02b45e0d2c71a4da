use Rattle.std.proofs.Common.{◌≡◌, ◌≤◌, ◌<◌, ℕ, length, false}
use Rattle.space_planes.specs.Planes.{bit}
use Rattle.space_planes.proofs.plane.Plane.last_set_below.Given as goal

abbrev pub invariant-loop-at : goal.invariant-loop-at
invariant-loop-at l = record {
  below_end : l.at ≤ l.i;
  within : l.at ≤ length l.self;
  clear_after : (j : ℕ) → l.at ≤ j → j < l.i → bit l.self j ≡ false;
}

abbrev pub decreases-loop-at : goal.decreases-loop-at
decreases-loop-at l = l.at
