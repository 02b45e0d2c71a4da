use Rattle.std.proofs.Common.{◌≡◌, take}
use Rattle.space_roots.specs.WordRoots.{root_words}
use Rattle.space_tracing.specs.Scans.{visited_all}
use Rattle.space_tracing.proofs.tracing.visit_roots.Given as goal

-- the words of the roots so far were visited
abbrev pub invariant-loop-k : goal.invariant-loop-k
invariant-loop-k l = l.heap ≡ visited_all l.fn.heap (take l.k (root_words l.roots))
