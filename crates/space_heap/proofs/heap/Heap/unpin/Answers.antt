use Rattle.std.proofs.Common.{◌≡◌, sym, ap, ◌∙◌, subst, arith}
use Rattle.space_heap.specs.Marking.{IsCoherent}
use Rattle.space_heap.specs.Relocation.{unpinned}
use Rattle.space_heap.specs.Inside.{AreAllMarks, view_from, view_with, rest_of}
use Rattle.space_heap.proofs.PinLaws.{coherent_unpinned}
use Rattle.space_heap.proofs.updates.PinnedSlots.{unpinned_view, unpinned_all}
use Rattle.space_heap.proofs.heap.Heap.unpin.Goals as goal

-- the view without pins
view : (c : goal.After-unpin_pages) → view_with c.self.inside.pools c.unpin_pages.new.marks.items (rest_of c.self.inside)
    ≡ unpinned (view_from c.self.inside)
view c =
    let h = c.self.inside in
    ap (λ ms. view_with h.pools ms (rest_of h)) c.unpin_pages.ensures.items ∙ unpinned_view h.pools h.marks.items (rest_of h)

pub invariant_of-self : goal.invariant_of-self
invariant_of-self c =
    let h = c.self.inside in
    let same = c.unpin_pages.ensures.room in
    let room = c.self.invariant.room in
    let places = c.self.invariant.places in
    record {
      marks = subst (AreAllMarks h.pools) (sym c.unpin_pages.ensures.items) (unpinned_all h.pools h.marks.items c.self.invariant.marks);
      room = omega arith;
      places = places;
      coherent = subst IsCoherent (sym (view c)) (coherent_unpinned (view_from h) c.self.invariant.coherent);
    }

pub returns : goal.returns
returns c = view c ∙ ap unpinned c.self.view_is
