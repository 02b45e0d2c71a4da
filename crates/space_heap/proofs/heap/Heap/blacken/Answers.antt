use Rattle.std.proofs.Common.{◌≡◌, ℕ, ◌<◌, ◌-◌, true, length, take, set, get_or, refl, sym, ap, ◌∙◌, subst, arith}
use Rattle.space_heap.specs.declared.colour.Colour.TheVariants.{Black}
use Rattle.space_heap.specs.HeapView.{HeapView}
use Rattle.space_heap.specs.Objects.{is_occupied}
use Rattle.space_heap.specs.Marking.{blackened, IsCoherent}
use Rattle.space_heap.specs.planes.RecolouredMarks.{recoloured_marks}
use Rattle.space_heap.specs.planes.MarkPlanes.{marks_at}
use Rattle.space_heap.specs.Inside.{AreAllMarks, IsHeap, view_from, view_with, rest_of}
use Rattle.space_heap.specs.declared.heap.Heap.TheInside.{Inside}
use Rattle.space_heap.proofs.fields.Here.{start_of_object, page_here, slot_here}
use Rattle.space_heap.proofs.ObjectLaws.{occupied_from_object}
use Rattle.space_heap.proofs.Coherence.{last_is_object, coherent_blackened}
use Rattle.space_heap.proofs.updates.RecolouredSlots.{recoloured_view, recoloured_all}
use Rattle.space_heap.proofs.heap.Heap.blacken.Goals as goal

pub recolour_slot-requires-clause-there : goal.recolour_slot-requires-clause-there
recolour_slot-requires-clause-there c = page_here c.self.inside _ c.self.view_is _ _ _ c.self.invariant c.slot_of-page.ensures.at

pub recolour_slot-requires-clause-within : goal.recolour_slot-requires-clause-within
recolour_slot-requires-clause-within c = slot_here c.self.inside _ c.self.view_is _ _ _ c.self.invariant c.slot_of-page.ensures.at

-- the last grey object stands where its address is
standing : (h : Inside) (v : HeapView) (a : ℕ) → view_from h ≡ v → IsHeap h → 0 < length v.grey → a ≡ get_or v.grey (length v.grey - 1) 0
    → is_occupied v a ≡ true
standing h v a is inv some last = occupied_from_object v a (last_is_object v a (subst IsCoherent is inv.coherent) some last)

some : (c : goal.After-pop) → 0 < length (view_from c.self.inside).grey
some c = subst (λ (v : HeapView). 0 < length v.grey) (sym c.self.view_is) c.requires.0

last : (c : goal.After-pop) → c.args.address ≡ get_or (view_from c.self.inside).grey (length (view_from c.self.inside).grey - 1) 0
last c = subst (λ (v : HeapView). c.args.address ≡ get_or v.grey (length v.grey - 1) 0) (sym c.self.view_is) c.requires.1

here : (c : goal.After-pop) → is_occupied (view_from c.self.inside) c.args.address ≡ true
here c = standing c.self.inside (view_from c.self.inside) c.args.address refl c.self.invariant (some c) (last c)

stack : (c : goal.After-pop) → c.pop.new.self.items ≡ take (length c.self.inside.grey.items - 1) c.self.inside.grey.items
stack c = c.pop.ensures.rest ∙ ap (λ n. take (n - 1) c.self.inside.grey.items) c.self.inside.grey.ok.0

-- the view after the object was recoloured
view : (c : goal.After-pop) → view_with c.self.inside.pools c.recolour_slot.new.marks.items
    (record (rest_of c.self.inside) { grey = c.pop.new.self.items }) ≡ blackened (view_from c.self.inside) c.args.address
view c =
    let h = c.self.inside in
    ap (λ ms. view_with h.pools ms (record (rest_of h) { grey = c.pop.new.self.items })) c.recolour_slot.ensures.items
    ∙ ap (λ grey. view_with h.pools (set h.marks.items c.slot_of-page.result.0 (recoloured_marks (marks_at h.marks.items c.slot_of-page.result.0)
    c.slot_of-page.result.1 Black)) (record (rest_of h) { grey = grey })) (stack c)
    ∙ recoloured_view h.pools h.marks.items (rest_of h) c.args.address c.slot_of-page.result.0 c.slot_of-page.result.1 Black c.self.invariant.marks
    c.slot_of-page.ensures.at (here c) (take (length h.grey.items - 1) h.grey.items)

pub invariant_of-self : goal.invariant_of-self
invariant_of-self c =
    let h = c.self.inside in
    let more = c.pop.ensures.capacity in
    let places = c.self.invariant.places in
    let room = c.self.invariant.room in
    let same = c.recolour_slot.ensures.room in
    record {
      marks = subst (AreAllMarks h.pools) (sym c.recolour_slot.ensures.items) (recoloured_all h.pools h.marks.items (rest_of h) c.args.address
          c.slot_of-page.result.0 c.slot_of-page.result.1 Black c.self.invariant.marks c.slot_of-page.ensures.at (here c));
      room = omega arith;
      places = omega arith;
      coherent = subst IsCoherent (sym (view c)) (coherent_blackened (view_from h) c.args.address (some c) (last c) c.self.invariant.coherent);
    }

pub slot_of-page-requires : goal.slot_of-page-requires
slot_of-page-requires c = start_of_object c.self.inside _ c.self.view_is _ (standing c.self.inside _ _ c.self.view_is c.self.invariant c.requires.0
    c.requires.1)

pub returns : goal.returns
returns c = view c ∙ ap (λ v. blackened v c.args.address) c.self.view_is
