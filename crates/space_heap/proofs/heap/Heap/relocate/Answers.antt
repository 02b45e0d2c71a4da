use Rattle.std.proofs.Common.{◌≡◌, ◌*◌, ◌≤◌, sym, ap, ◌∙◌, subst, arith}
use Rattle.std.specs.Prelude.{vec_capacity}
use Rattle.space_heap.specs.HeapView.{HeapView}
use Rattle.space_heap.specs.Relocation.{relocated}
use Rattle.space_heap.specs.Marking.{IsCoherent}
use Rattle.space_heap.specs.Inside.{view_with, view_from, rest_of, AreAllMarks}
use Rattle.space_heap.proofs.fields.Readers.{bits_within}
use Rattle.space_heap.proofs.fields.Here.{page_here, slot_here}
use Rattle.space_heap.proofs.fields.MovedHere.{start_moved, object_moved, move_in, used_moved, pool_moved, least_moved}
use Rattle.space_heap.proofs.updates.Relocated.{IsCopied, one_move, relocated_view, relocated_all, relocated_limit, relocated_count}
use Rattle.space_heap.proofs.RelocationLaws.{coherent_relocated}
use Rattle.space_heap.proofs.heap.Heap.relocate.Goals as goal

pub slot_of-page-requires : goal.slot_of-page-requires
slot_of-page-requires c = start_moved c.self.inside _ c.self.view_is _ _ c.requires.is_move

pub page_pool-requires : goal.page_pool-requires
page_pool-requires c =
    let l = c.self.invariant.marks.all in
    let p = page_here c.self.inside _ c.self.view_is _ _ _ c.self.invariant c.slot_of-page.ensures.at in
    omega arith

pub move_words-to_page-requires-clause-used : goal.move_words-to_page-requires-clause-used
move_words-to_page-requires-clause-used c =
    used_moved c.self.inside _ c.self.view_is _ _ c.requires.is_move _ _ c.self.invariant c.slot_of-page.ensures.at

pub move_words-to_page-requires-clause-to : goal.move_words-to_page-requires-clause-to
move_words-to_page-requires-clause-to c =
    least_moved c.self.inside _ c.self.view_is _ _ c.requires.is_move _ _ c.self.invariant c.slot_of-page.ensures.at c.slot_of-page.ensures.sound c.in-Some.pool
    (sym c.in-Some.ensures.pool)

pub move_marks-requires-clause-within : goal.move_marks-requires-clause-within
move_marks-requires-clause-within c = slot_here c.self.inside _ c.self.view_is _ _ _ c.self.invariant c.slot_of-page.ensures.at

pub move_marks-requires-clause-to_within : goal.move_marks-requires-clause-to_within
move_marks-requires-clause-to_within c =
    let h = c.self.inside in
    bits_within h.pools h.marks.items (rest_of h) c.args.to _ _ c.self.invariant.marks c.move_words-to_page.ensures.at

-- the words were copied to the free slot
copied : (c : goal.After-self-1) → IsCopied c.self.inside.pools c.move_words-to_page.ensures.moved.between c.self.inside.marks.items (rest_of c.self.inside)
    c.args.from c.slot_of-page.result.0 c.slot_of-page.result.1 c.args.to c.move_words-to_page.result.0 c.move_words-to_page.result.1
copied c = record {
  all = c.self.invariant.marks;
  at = c.slot_of-page.ensures.at;
  there = c.move_words-to_page.ensures.at;
  object = object_moved c.self.inside _ c.self.view_is _ _ c.requires.is_move;
  free = c.move_words-to_page.ensures.free;
  copied = c.move_words-to_page.ensures.moved.copied;
}

-- the view after the move
view : (c : goal.After-self-1) → view_with c.move_words-to_page.new.pools c.move_marks.new.marks.items (one_move (rest_of c.self.inside))
    ≡ relocated (view_from c.self.inside) c.args.from c.args.to
view c =
    ap (λ ms. view_with c.move_words-to_page.new.pools ms (one_move (rest_of c.self.inside))) c.move_marks.ensures.items
    ∙ relocated_view (copied c) c.move_words-to_page.new.pools c.move_words-to_page.ensures.moved.becomes

pub invariant_of-self : goal.invariant_of-self
invariant_of-self c =
    let h = c.self.inside in
    let w = c.move_words-to_page.new.pools in
    let moved = c.move_words-to_page.ensures.moved in
    let m = move_in h _ c.self.view_is _ _ c.requires.is_move in
    record {
      marks = subst (AreAllMarks w) (sym c.move_marks.ensures.items) (relocated_all (copied c) w moved.becomes);
      room = subst (λ n. n ≤ vec_capacity c.move_marks.new.marks) (sym (relocated_limit (copied c) w moved.becomes))
          (subst (λ n. h.pools.limit ≤ n) (sym c.move_marks.ensures.room) c.self.invariant.room);
      places = subst (λ n. 1638 * n ≤ vec_capacity h.grey) (sym (relocated_count (copied c) w moved.becomes)) c.self.invariant.places;
      coherent = subst IsCoherent (sym (view c)) (coherent_relocated (view_from h) m.pool c.args.from c.args.to m.object m.least.free
          (ap (λ (v : HeapView). v.grey) c.self.view_is ∙ c.requires.none_grey) c.self.invariant.coherent);
    }

pub unreachable-requires : goal.unreachable-requires
unreachable-requires c =
    let p = pool_moved c.self.inside _ c.self.view_is _ _ c.requires.is_move _ _ c.self.invariant c.slot_of-page.ensures.at in
    let n = c.in-None.ensures.pool in
    cc

pub returns : goal.returns
returns c = view c ∙ ap (λ v. relocated v c.args.from c.args.to) c.self.view_is
