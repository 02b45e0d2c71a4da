use Rattle.std.proofs.Common.{◌≡◌, ◌≤◌, ◌<◌, ◌-◌, ℕ, length, false}
use Rattle.space_planes.specs.Planes.{bit}
use Rattle.space_planes.proofs.plane.Plane.first_set_from.Given as goal

abbrev pub invariant-loop-at : goal.invariant-loop-at
invariant-loop-at l = record {
  from_start : l.i ≤ l.at;
  clear_before : (j : ℕ) → l.i ≤ j → j < l.at → bit l.self j ≡ false;
}

abbrev pub decreases-loop-at : goal.decreases-loop-at
decreases-loop-at l = length l.self - l.at
