use Rattle.std.proofs.Common.{◌≡◌, ℕ, ◌≤◌, ◌<◌, true, false}
use Rattle.space_planes.specs.Planes.{bit}
use Rattle.space_planes.proofs.formulas.is_clear.Given as goal

-- the bits so far are 0 where it is still so
abbrev pub invariant-places : goal.invariant-places
invariant-places l = l.clear ≡ true → (k : ℕ) → l.from ≤ k → k < l.i → bit l.bits k ≡ false
