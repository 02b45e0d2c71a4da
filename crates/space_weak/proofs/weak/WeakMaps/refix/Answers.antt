use Rattle.std.proofs.Common.{◌<◌, ◌≤◌, ◌∙◌, length, ap, arith, refl}
use Rattle.space_weak.specs.StoredEntries.{entries_in}
use Rattle.space_weak.proofs.WalkLemmas.{changed-next, changed-whole, refixed-changed, AreStored-changed, refixed_map}
use Rattle.space_weak.proofs.weak.WeakMaps.refix.Goals as goal

pub invariant_of-self : goal.invariant_of-self
invariant_of-self c =
    let old = c.self.inside.maps.entries in
    let k = c.loop-k.k in
    let all : length old ≤ k = omega arith in
    let heap = c.args.heap.now in
    rw (c.loop-k.invariant, changed-whole (refixed_map heap) old k all)
    (AreStored-changed (λ links. links.entries) heap (refixed_map heap) (λ links. refl) old c.self.invariant)

pub loop-k-preserved : goal.loop-k-preserved
loop-k-preserved c =
    let old = c.self.inside.maps.entries in
    let k = c.loop-k.k in
    let is = c.loop-k.invariant in
    let within : k < length old = omega arith in
    rw (is, c.refix_links.ensures) (changed-next (refixed_map c.args.heap.now) old k c.index_mut.result.now within (rw is at c.index_mut.ensures.value))

pub returns : goal.returns
returns c =
    let old = c.self.inside.maps.entries in
    let k = c.loop-k.k in
    let all : length old ≤ k = omega arith in
    let heap = c.args.heap.now in
    rw (← c.self.view_is) (ap (entries_in (λ links. links.entries)) (c.loop-k.invariant ∙ changed-whole (refixed_map heap) old k all)
    ∙ refixed-changed (λ links. links.entries) heap (refixed_map heap) (λ links. refl) old)
