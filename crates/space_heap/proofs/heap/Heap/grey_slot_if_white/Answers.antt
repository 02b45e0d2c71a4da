use Rattle.std.proofs.Common.{◌≡◌, ◌*◌, ◌∷◌, ◌++◌, [], ◌<◌, true, ◌&&◌, length, set, sym, ap, ◌∙◌, subst, arith}
use Rattle.space_heap.specs.declared.colour.Colour.TheVariants.{White, Grey}
use Rattle.space_heap.specs.Objects.{is_occupied, is_object}
use Rattle.space_heap.specs.Marking.{colour_of, is_white, visited, greyed, IsCoherent}
use Rattle.space_heap.specs.planes.RecolouredMarks.{recoloured_marks}
use Rattle.space_heap.specs.planes.MarkPlanes.{marks_at}
use Rattle.space_heap.specs.Inside.{AreAllMarks, view_from, view_with, rest_of}
use Rattle.space_heap.proofs.fields.Here.{place_of, page_here, slot_here, white_object, not_white}
use Rattle.space_heap.proofs.ObjectLaws.{occupied_from_object}
use Rattle.space_heap.proofs.MarkingLaws.{visited_grey, visited_same}
use Rattle.space_heap.proofs.fields.SlotCounts.{few_here}
use Rattle.space_heap.proofs.Coherence.{coherent_greyed, fewer_grey}
use Rattle.space_heap.proofs.updates.RecolouredSlots.{recoloured_view, recoloured_all}
use Rattle.space_heap.proofs.heap.Heap.grey_slot_if_white.Goals as goal

pub marks_of-requires : goal.marks_of-requires
marks_of-requires c = page_here c.self.inside _ c.self.view_is _ _ _ c.self.invariant (place_of c.self.inside _ c.self.view_is _ _ _ c.requires)

pub is_white-requires-clause-within : goal.is_white-requires-clause-within
is_white-requires-clause-within c = subst (λ m. c.args.slot < length m.object) (sym c.marks_of.ensures)
    (slot_here c.self.inside _ c.self.view_is _ _ _ c.self.invariant (place_of c.self.inside _ c.self.view_is _ _ _ c.requires))

pub returns-then-not-is_white : goal.returns-then-not-is_white
returns-then-not-is_white c = sym (visited_same c.args.self.now c.args.word (not_white c.self.inside _ c.self.view_is _ _ _ c.self.invariant
    (place_of c.self.inside _ c.self.view_is _ _ _ c.requires) _ _ c.marks_of.ensures c.is_white.ensures c.if-not-is_white.true))

-- the mark stack has room
pub push_grey-requires : goal.push_grey-requires
push_grey-requires c =
    let h = c.self.inside in
    let o = white_object h _ c.self.view_is _ _ _ c.self.invariant (place_of c.self.inside _ c.self.view_is _ _ _ c.requires) _ _ c.marks_of.ensures c.is_white.ensures c.if-not-is_white.false in
    let fewer = fewer_grey (view_from h) (1638 * length h.pools.pages) c.args.word o.0 o.1 c.self.invariant.coherent
    (few_here h.pools h.marks.items (rest_of h) c.page_count.ensures.sound) in
    let places = c.self.invariant.places in
    let len = h.grey.ok.0 in
    omega arith

-- the word named a white object
white : (c : goal.After-push_grey) → (is_object (view_from c.self.inside) c.args.word ≡ true) × (colour_of (view_from c.self.inside) c.args.word ≡ White)
white c = white_object c.self.inside _ c.self.view_is _ _ _ c.self.invariant (place_of c.self.inside _ c.self.view_is _ _ _ c.requires) _ _ c.marks_of.ensures c.is_white.ensures
    c.if-not-is_white.false

standing : (c : goal.After-push_grey) → is_occupied (view_from c.self.inside) c.args.word ≡ true
standing c = occupied_from_object (view_from c.self.inside) c.args.word (white c).0

-- the view after the object became grey
view : (c : goal.After-push_grey) → view_with c.self.inside.pools c.recolour_slot.new.marks.items
    (record (rest_of c.self.inside) { grey = c.push_grey.new.grey.items }) ≡ greyed (view_from c.self.inside) c.args.word
view c =
    let h = c.self.inside in
    ap (λ ms. view_with h.pools ms (record (rest_of h) { grey = c.push_grey.new.grey.items })) c.recolour_slot.ensures.items
    ∙ ap (λ grey. view_with h.pools (set h.marks.items c.args.page (recoloured_marks (marks_at h.marks.items c.args.page) c.args.slot Grey))
    (record (rest_of h) { grey = grey })) c.push_grey.ensures.items
    ∙ recoloured_view h.pools h.marks.items (rest_of h) c.args.word c.args.page c.args.slot Grey c.self.invariant.marks (place_of c.self.inside _ c.self.view_is _ _ _ c.requires)
    (standing c) (h.grey.items ++ c.args.word ∷ [])

pub invariant_of-self : goal.invariant_of-self
invariant_of-self c =
    let h = c.self.inside in
    let more = c.push_grey.ensures.room in
    let places = c.self.invariant.places in
    let room = c.self.invariant.room in
    let same = c.recolour_slot.ensures.room in
    record {
      marks = subst (AreAllMarks h.pools) (sym c.recolour_slot.ensures.items) (recoloured_all h.pools h.marks.items (rest_of h) c.args.word c.args.page
          c.args.slot Grey c.self.invariant.marks (place_of c.self.inside _ c.self.view_is _ _ _ c.requires) (standing c));
      room = omega arith;
      places = omega arith;
      coherent = subst IsCoherent (sym (view c)) (coherent_greyed (view_from h) c.args.word (white c).0 (white c).1 c.self.invariant.coherent);
    }

pub returns : goal.returns
returns c =
    view c
    ∙ sym (visited_grey (view_from c.self.inside) c.args.word (ap (λ b. b && is_white (colour_of (view_from c.self.inside) c.args.word)) (white c).0
    ∙ ap is_white (white c).1))
    ∙ ap (λ v. visited v c.args.word) c.self.view_is
