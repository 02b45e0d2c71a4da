use Rattle.std.proofs.Common.{rules}
use Rattle.space_weak.proofs.WalkLemmas.{purged-RetainsPairs, HaveOwnKeys-RetainsPairs}
use Rattle.space_weak.proofs.weak.WeakMaps.purge.Goals as goal

pub invariant_of-self : goal.invariant_of-self
invariant_of-self c = record {
  distinct = c.retain.ensures.unique;
  own_keys = HaveOwnKeys-RetainsPairs (λ links. links.entries) c.args.heap.now _ _
      (λ k v b w g h. search rules) c.self.inside.maps.entries _ c.retain.ensures.filtered;
}

pub returns : goal.returns
returns c = rw (← c.self.view_is)
    (purged-RetainsPairs (λ links. links.entries) c.args.heap.now _ _ (λ k v b w g h. search rules) c.self.inside.maps.entries _ c.retain.ensures.filtered)
