use Rattle.std.proofs.Common.{◌≡◌, ◌++◌, take, drop}
use Rattle.indexmap.specs.IndexMap.{with_entries}
use Rattle.space_weak.specs.StoredEntries.{refixed_links}
use Rattle.space_weak.proofs.weak.refix_links.Given as goal

abbrev pub invariant-loop-k : goal.invariant-loop-k
invariant-loop-k l = l.links ≡ with_entries l.fn.links (refixed_links l.heap (take l.k l.fn.links.entries) ++ drop l.k l.fn.links.entries)
