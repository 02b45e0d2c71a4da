use Rattle.std.proofs.Common.{◌≡◌, ◌≤◌, ◌*◌, sym, ap, ◌∙◌, subst}
use Rattle.std.specs.Prelude.{vec_capacity}
use Rattle.space_heap.specs.Marking.{IsCoherent}
use Rattle.space_heap.specs.Relocation.{ended}
use Rattle.space_heap.specs.Inside.{view_with, view_from, rest_of}
use Rattle.space_heap.proofs.updates.EndedPages.{one_compaction, ended_view}
use Rattle.space_heap.proofs.EndedLaws.{coherent_ended}
use Rattle.space_heap.proofs.heap.Heap.end_moves.Goals as goal

-- the view after the end
view : (c : goal.After-self-1) → view_with c.end_pages.new.pools c.end_pages.new.marks.items (one_compaction (rest_of c.self.inside))
    ≡ ended (view_from c.self.inside)
view c = let h = c.self.inside in
    ended_view h.pools c.end_pages.new.pools h.marks.items c.end_pages.new.marks.items (rest_of h) c.end_pages.ensures.ended

pub invariant_of-self : goal.invariant_of-self
invariant_of-self c =
    let h = c.self.inside in
    let e = c.end_pages.ensures.ended in
    record {
      marks = e.all;
      room = subst (λ n. n ≤ vec_capacity c.end_pages.new.marks) (sym e.limit)
          (subst (λ n. h.pools.limit ≤ n) (sym c.end_pages.ensures.room) c.self.invariant.room);
      places = subst (λ n. 1638 * n ≤ vec_capacity h.grey) (sym e.count) c.self.invariant.places;
      coherent = subst IsCoherent (sym (view c)) (coherent_ended (view_from h) c.self.invariant.coherent);
    }

pub returns : goal.returns
returns c = view c ∙ ap ended c.self.view_is
