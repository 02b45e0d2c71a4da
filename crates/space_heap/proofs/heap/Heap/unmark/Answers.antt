use Rattle.std.proofs.Common.{◌≡◌, map, sym, ap, ◌∙◌, subst, arith}
use Rattle.space_heap.specs.Marking.{unmarked, IsCoherent}
use Rattle.space_heap.specs.planes.RecolouredMarks.{unmarked_marks}
use Rattle.space_heap.specs.Inside.{AreAllMarks, view_from, view_with, rest_of}
use Rattle.space_heap.proofs.Coherence.{coherent_unmarked}
use Rattle.space_heap.proofs.updates.UnmarkedSlots.{unmarked_view, unmarked_all}
use Rattle.space_heap.proofs.heap.Heap.unmark.Goals as goal

-- the view without marks
view : (c : goal.After-clear) → view_with c.self.inside.pools c.unmark_pages.new.marks.items
    (record (rest_of c.self.inside) { grey = c.clear.new.self.items }) ≡ unmarked (view_from c.self.inside)
view c =
    let h = c.self.inside in
    ap (λ ms. view_with h.pools ms (record (rest_of h) { grey = c.clear.new.self.items })) c.unmark_pages.ensures.items
    ∙ ap (λ grey. view_with h.pools (map unmarked_marks h.marks.items) (record (rest_of h) { grey = grey })) c.clear.ensures.items
    ∙ unmarked_view h.pools h.marks.items (rest_of h)

pub invariant_of-self : goal.invariant_of-self
invariant_of-self c =
    let h = c.self.inside in
    let same = c.unmark_pages.ensures.room in
    let room = c.self.invariant.room in
    let places = c.self.invariant.places in
    let kept = c.clear.ensures.capacity in
    record {
      marks = subst (AreAllMarks h.pools) (sym c.unmark_pages.ensures.items) (unmarked_all h.pools h.marks.items c.self.invariant.marks);
      room = omega arith;
      places = omega arith;
      coherent = subst IsCoherent (sym (view c)) (coherent_unmarked (view_from h));
    }

pub returns : goal.returns
returns c = view c ∙ ap unmarked c.self.view_is
