use Rattle.std.proofs.Common.{◌≡◌, take}
use Rattle.space_planes.specs.Planes.{count_set}
use Rattle.space_planes.proofs.plane.Plane.count.Given as goal

abbrev pub invariant-loop-bit : goal.invariant-loop-bit
invariant-loop-bit l = l.count ≡ count_set (take l.bit-index l.bit-items)
