use Rattle.std.proofs.Common.{◌≡◌, sym, ap, ◌∙◌, subst, arith}
use Rattle.space_heap.specs.Marking.{IsCoherent}
use Rattle.space_heap.specs.Generations.{old_marked}
use Rattle.space_heap.specs.Inside.{view_from, view_with, rest_of}
use Rattle.space_heap.proofs.GenerationLaws.{coherent_old_marked}
use Rattle.space_heap.proofs.fields.Readers.{wide_own}
use Rattle.space_heap.proofs.updates.OldMarkedSlots.{old_marked_view, old_marked_all}
use Rattle.space_heap.proofs.heap.Heap.mark_old.Goals as goal

pub mark_old_pages-requires : goal.mark_old_pages-requires
mark_old_pages-requires c = λ k. wide_own _ _ (c.self.invariant.marks.of_page k).wide

-- the view as a minor marking begins
view : (c : goal.After-clear) → view_with c.self.inside.pools c.mark_old_pages.new.marks.items
    (record (rest_of c.self.inside) { grey = c.clear.new.self.items }) ≡ old_marked (view_from c.self.inside)
view c =
    let h = c.self.inside in
    ap (λ grey. view_with h.pools c.mark_old_pages.new.marks.items (record (rest_of h) { grey = grey })) c.clear.ensures.items
    ∙ old_marked_view h.pools h.marks.items c.mark_old_pages.new.marks.items c.mark_old_pages.ensures.len c.mark_old_pages.ensures.each
    c.self.invariant.marks (rest_of h)

pub invariant_of-self : goal.invariant_of-self
invariant_of-self c =
    let h = c.self.inside in
    let same = c.mark_old_pages.ensures.room in
    let room = c.self.invariant.room in
    let places = c.self.invariant.places in
    let kept = c.clear.ensures.capacity in
    record {
      marks = old_marked_all h.pools h.marks.items c.mark_old_pages.new.marks.items c.mark_old_pages.ensures.len c.mark_old_pages.ensures.each
          c.self.invariant.marks;
      room = omega arith;
      places = omega arith;
      coherent = subst IsCoherent (sym (view c)) (coherent_old_marked (view_from h));
    }

pub returns : goal.returns
returns c = view c ∙ ap old_marked c.self.view_is
