use Rattle.std.proofs.Common.{◌≡◌, length, take}
use Rattle.space_planes.specs.Planes.{set_in_first_only}
use Rattle.space_planes.proofs.formulas.and_not.Given as goal

-- the bits so far were written
abbrev pub invariant-loop-i : goal.invariant-loop-i
invariant-loop-i l = record {
  written : take l.i l.out ≡ set_in_first_only (take l.i l.left) (take l.i l.right);
  long : length l.out ≡ length l.left;
}
