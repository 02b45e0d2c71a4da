use Rattle.std.proofs.Common.{rules}
use Rattle.indexmap.proofs.CallerLemmas.{filter-RetainsPairs}
use Rattle.space_weak.specs.StoredEntries.{both_live}
use Rattle.space_weak.proofs.weak.purge_links.Goals as goal

pub returns-clause-left : goal.returns-clause-left
returns-clause-left c = filter-RetainsPairs _ (λ stored. both_live c.args.heap.now stored.1) _ (λ k v b w g h. search rules) _ _ c.retain.ensures.filtered
