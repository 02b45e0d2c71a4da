use Rattle.std.proofs.Common.{◌≡◌, ℕ, ◌≤◌, ◌<◌, ◌-◌, false, length}
use Rattle.space_planes.specs.Planes.{bit}
use Rattle.space_planes.proofs.formulas.pass_clear.Given as goal

-- the bits that were passed over are 0
abbrev pub invariant-blocks-2 : goal.invariant-blocks-2
invariant-blocks-2 l = record {
  from_start : l.from ≤ l.at;
  within : l.at ≤ length l.bits;
  clear : (k : ℕ) → l.from ≤ k → k < l.at → bit l.bits k ≡ false;
}

abbrev pub decreases-blocks-2 : goal.decreases-blocks-2
decreases-blocks-2 l = length l.bits - l.at
