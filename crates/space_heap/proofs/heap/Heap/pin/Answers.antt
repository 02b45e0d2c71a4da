use Rattle.std.proofs.Common.{◌≡◌, true, refl, sym, ap, ◌∙◌, subst, arith}
use Rattle.space_heap.specs.Objects.{is_occupied, is_object}
use Rattle.space_heap.specs.Marking.{IsCoherent}
use Rattle.space_heap.specs.Relocation.{pinned_object, pinned_at}
use Rattle.space_heap.specs.planes.MarkPlanes.{marks_at}
use Rattle.space_heap.specs.planes.PinnedMarks.{pinned_marks}
use Rattle.space_heap.specs.Inside.{AreAllMarks, view_from, view_with, rest_of}
use Rattle.space_heap.proofs.fields.Here.{start_of_object, page_here, slot_here, wide_here}
use Rattle.space_heap.proofs.ObjectLaws.{occupied_from_object}
use Rattle.space_heap.proofs.Coherence.{coherent_with_object}
use Rattle.space_heap.proofs.updates.NotedSlots.{Notes, noted_view, noted_all}
use Rattle.space_heap.proofs.updates.PinnedSlots.{notes_pinned}
use Rattle.space_heap.proofs.heap.Heap.pin.Goals as goal

pub slot_of-page-requires : goal.slot_of-page-requires
slot_of-page-requires c = start_of_object c.self.inside _ c.self.view_is _ (occupied_from_object _ _ c.requires)

pub pin_slot-requires-clause-there : goal.pin_slot-requires-clause-there
pin_slot-requires-clause-there c = page_here c.self.inside _ c.self.view_is _ _ _ c.self.invariant c.slot_of-page.ensures.at

pub pin_slot-requires-clause-within : goal.pin_slot-requires-clause-within
pin_slot-requires-clause-within c = slot_here c.self.inside _ c.self.view_is _ _ _ c.self.invariant c.slot_of-page.ensures.at

standing : (c : goal.After-pin_slot) → is_occupied (view_from c.self.inside) c.args.address ≡ true
standing c = occupied_from_object (view_from c.self.inside) c.args.address (ap (λ v. is_object v c.args.address) c.self.view_is ∙ c.requires)

notes : (c : goal.After-pin_slot) → Notes (marks_at c.self.inside.marks.items c.slot_of-page.result.0)
    (pinned_marks (marks_at c.self.inside.marks.items c.slot_of-page.result.0) c.slot_of-page.result.1) c.slot_of-page.result.1 pinned_object
notes c = notes_pinned (marks_at c.self.inside.marks.items c.slot_of-page.result.0) c.slot_of-page.result.1
    (slot_here c.self.inside _ c.self.view_is _ _ _ c.self.invariant c.slot_of-page.ensures.at)
    (wide_here c.self.inside _ c.self.view_is _ _ _ c.self.invariant c.slot_of-page.ensures.at)

-- the view after the pin
view : (c : goal.After-pin_slot) → view_with c.self.inside.pools c.pin_slot.new.marks.items (rest_of c.self.inside)
    ≡ pinned_at (view_from c.self.inside) c.args.address
view c =
    let h = c.self.inside in
    ap (λ ms. view_with h.pools ms (rest_of h)) c.pin_slot.ensures.items
    ∙ noted_view h.pools h.marks.items (rest_of h) c.args.address c.slot_of-page.result.0 c.slot_of-page.result.1 _ pinned_object c.self.invariant.marks
    c.slot_of-page.ensures.at (standing c) (notes c)

pub invariant_of-self : goal.invariant_of-self
invariant_of-self c =
    let h = c.self.inside in
    let places = c.self.invariant.places in
    let room = c.self.invariant.room in
    let same = c.pin_slot.ensures.room in
    record {
      marks = subst (AreAllMarks h.pools) (sym c.pin_slot.ensures.items) (noted_all h.pools h.marks.items (rest_of h) c.args.address
          c.slot_of-page.result.0 c.slot_of-page.result.1 _ pinned_object c.self.invariant.marks c.slot_of-page.ensures.at (standing c) (notes c));
      room = omega arith;
      places = places;
      coherent = subst IsCoherent (sym (view c)) (coherent_with_object (view_from h) c.args.address _ refl refl c.self.invariant.coherent);
    }

pub returns : goal.returns
returns c = view c ∙ ap (λ v. pinned_at v c.args.address) c.self.view_is
