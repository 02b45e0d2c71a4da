use Rattle.std.proofs.Common.{◌≡◌, length, take}
use Rattle.space_planes.specs.Planes.{set_in_either}
use Rattle.space_planes.proofs.formulas.or.Given as goal

-- the bits so far were written
abbrev pub invariant-loop-i : goal.invariant-loop-i
invariant-loop-i l = record {
  written : take l.i l.out ≡ set_in_either (take l.i l.left) (take l.i l.right);
  long : length l.out ≡ length l.left;
}
