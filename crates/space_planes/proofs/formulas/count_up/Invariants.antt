use Rattle.space_planes.proofs.CountsUp.{AreCounted}
use Rattle.space_planes.proofs.formulas.count_up.Given as goal

-- the counts so far were raised
abbrev pub invariant-places : goal.invariant-places
invariant-places l = AreCounted l.counted l.skipped l.fn.low l.fn.high l.low l.high l.i
