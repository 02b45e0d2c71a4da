use Rattle.std.proofs.Common.{◌≡◌, true, refl, sym, ap, ◌∙◌, subst, arith}
use Rattle.space_heap.specs.Objects.{is_occupied}
use Rattle.space_heap.specs.Marking.{IsCoherent}
use Rattle.space_heap.specs.Generations.{kept_at}
use Rattle.space_heap.specs.planes.MarkPlanes.{marks_at}
use Rattle.space_heap.specs.planes.RecolouredMarks.{kept_marks}
use Rattle.space_heap.specs.Inside.{AreAllMarks, view_from, view_with, rest_of}
use Rattle.space_heap.proofs.fields.Here.{place_of, page_here, slot_here, wide_here}
use Rattle.space_heap.proofs.Coherence.{coherent_with_object}
use Rattle.space_heap.proofs.updates.NotedSlots.{Notes, keeping, notes_kept, noted_view, noted_all}
use Rattle.space_heap.proofs.heap.Heap.keep_in_slot.Goals as goal

pub keep_slot-requires-clause-there : goal.keep_slot-requires-clause-there
keep_slot-requires-clause-there c = page_here c.self.inside _ c.self.view_is _ _ _ c.self.invariant (place_of c.self.inside _ c.self.view_is _ _ _ c.requires.place)

pub keep_slot-requires-clause-within : goal.keep_slot-requires-clause-within
keep_slot-requires-clause-within c = slot_here c.self.inside _ c.self.view_is _ _ _ c.self.invariant (place_of c.self.inside _ c.self.view_is _ _ _ c.requires.place)

standing : (c : goal.After-keep_slot) → is_occupied (view_from c.self.inside) c.args.address ≡ true
standing c = ap (λ v. is_occupied v c.args.address) c.self.view_is ∙ c.requires.object

notes : (c : goal.After-keep_slot) → Notes (marks_at c.self.inside.marks.items c.args.page)
    (kept_marks (marks_at c.self.inside.marks.items c.args.page) c.args.slot) c.args.slot keeping
notes c = notes_kept (marks_at c.self.inside.marks.items c.args.page) c.args.slot
    (slot_here c.self.inside _ c.self.view_is _ _ _ c.self.invariant (place_of c.self.inside _ c.self.view_is _ _ _ c.requires.place))
    (wide_here c.self.inside _ c.self.view_is _ _ _ c.self.invariant (place_of c.self.inside _ c.self.view_is _ _ _ c.requires.place))

-- the view after the mark changed
view : (c : goal.After-keep_slot) → view_with c.self.inside.pools c.keep_slot.new.marks.items (rest_of c.self.inside)
    ≡ kept_at (view_from c.self.inside) c.args.address
view c =
    let h = c.self.inside in
    ap (λ ms. view_with h.pools ms (rest_of h)) c.keep_slot.ensures.items
    ∙ noted_view h.pools h.marks.items (rest_of h) c.args.address c.args.page c.args.slot _ keeping c.self.invariant.marks
    (place_of c.self.inside _ c.self.view_is _ _ _ c.requires.place) (standing c) (notes c)

pub invariant_of-self : goal.invariant_of-self
invariant_of-self c =
    let h = c.self.inside in
    let places = c.self.invariant.places in
    let room = c.self.invariant.room in
    let same = c.keep_slot.ensures.room in
    record {
      marks = subst (AreAllMarks h.pools) (sym c.keep_slot.ensures.items) (noted_all h.pools h.marks.items (rest_of h) c.args.address
          c.args.page c.args.slot _ keeping c.self.invariant.marks (place_of c.self.inside _ c.self.view_is _ _ _ c.requires.place) (standing c) (notes c));
      room = omega arith;
      places = places;
      coherent = subst IsCoherent (sym (view c)) (coherent_with_object (view_from h) c.args.address _ refl refl c.self.invariant.coherent);
    }

pub returns : goal.returns
returns c = view c ∙ ap (λ v. kept_at v c.args.address) c.self.view_is
