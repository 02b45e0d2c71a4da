use Rattle.std.proofs.Common.{◌≡◌, take}
use Rattle.space_tracing.specs.Scans.{visited_all}
use Rattle.space_tracing.proofs.tracing.visit_all.Given as goal

-- the words so far were visited
abbrev pub invariant-loop-word : goal.invariant-loop-word
invariant-loop-word l = l.heap ≡ visited_all l.fn.heap (take l.word-index l.words)
