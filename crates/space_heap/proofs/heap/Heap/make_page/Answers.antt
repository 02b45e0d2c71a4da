use Rattle.std.proofs.Common.{◌≡◌, ◌+◌, ◌*◌, ◌≤◌, ◌∷◌, ◌++◌, [], length, sym, ap, ◌∙◌, subst, arith}
use Rattle.std.specs.Prelude.{vec_capacity}
use Rattle.std.proofs.lemmas.List.{get_or_past}
use Rattle.space_pools.specs.PoolsView.{PoolsView}
use Rattle.space_heap.specs.HeapView.{HeapView, no_page, is_unswept, with_page}
use Rattle.space_heap.specs.NewPages.{HasNoSpare}
use Rattle.space_heap.specs.planes.MarkPlanes.{clear_marks}
use Rattle.space_heap.specs.Marking.{IsCoherent}
use Rattle.space_heap.specs.Inside.{view_with, view_from, AreAllMarks, rest_of}
use Rattle.space_heap.proofs.fields.Views.{length-pages_from}
use Rattle.space_heap.proofs.fields.Unswept.{past_unswept, unswept_read}
use Rattle.space_heap.proofs.NewPages.{PageAdded, no_spare_back, page_appended, next_last, added_view, added_marks, limit_with_free_page, places_made}
use Rattle.space_heap.proofs.Coherence.{coherent_with_page}
use Rattle.space_heap.proofs.heap.Heap.make_page.Goals as goal

pub reserve_room-requires : goal.reserve_room-requires
reserve_room-requires c =
    let h = c.self.inside in
    let n = length-pages_from h.pools h.marks.items in
    let e = ap (λ (v : HeapView). length v.pages) c.self.view_is in
    let l = ap (λ (v : HeapView). v.limit) c.self.view_is in
    let r = c.requires.room in
    let m = c.page_count-pages.ensures.sound.most in
    let k = c.page_count-pages.ensures.count in
    omega arith

pub append_page-requires : goal.append_page-requires
append_page-requires c =
    let h = c.self.inside in
    let n = length-pages_from h.pools h.marks.items in
    let e = ap (λ (v : HeapView). length v.pages) c.self.view_is in
    let l = ap (λ (v : HeapView). v.limit) c.self.view_is in
    let r = c.requires.room in
    let m = c.self.invariant.marks.all in
    let f = c.self.invariant.room in
    omega arith

-- the page comes last
last : (c : goal.After-append_page) → c.in-Ok-add_page.page ≡ length c.self.inside.pools.pages
last c =
    let h = c.self.inside in
    next_last h.pools c.in-Ok-add_page.page (no_spare_back h.pools h.marks.items (rest_of h) (subst HasNoSpare (sym c.self.view_is) c.requires.none_spare))
    c.in-Ok-add_page.ensures.next

added : (c : goal.After-append_page) → PageAdded c.self.inside.pools c.self.inside.marks.items c.append_page.new.marks.items c.in-Ok-add_page.page c.args.pool
added c =
    let h = c.self.inside in
    let items = c.append_page.ensures.items ∙ ap (λ m. h.marks.items ++ m ∷ []) (c.in-Ok-new.ensures ∙ ap clear_marks c.slot_count-slots.ensures.count) in
    page_appended h.pools h.marks.items c.append_page.new.marks.items c.in-Ok-add_page.page c.args.pool c.self.invariant.marks.all (last c) items

-- the view after the page was made
view : (c : goal.After-append_page) → view_with c.add_page.new.self c.append_page.new.marks.items
    (record (rest_of c.self.inside) { grey = c.reserve_room.new.grey.items }) ≡ with_page (view_from c.self.inside) c.in-Ok-add_page.page c.args.pool
view c =
    let h = c.self.inside in
    let p = added c in
    ap (λ w. view_with w c.append_page.new.marks.items (record (rest_of h) { grey = c.reserve_room.new.grey.items })) c.in-Ok-add_page.ensures.added
    ∙ added_view h.pools h.marks.items c.append_page.new.marks.items c.in-Ok-add_page.page c.args.pool p.within p.long p.here p.other
    (past_unswept h.pools c.in-Ok-add_page.page (let is = last c in omega arith)) (record (rest_of h) { grey = c.reserve_room.new.grey.items })
    ∙ ap (λ grey. with_page (view_with h.pools h.marks.items (record (rest_of h) { grey = grey })) c.in-Ok-add_page.page c.args.pool)
    c.reserve_room.ensures.items

pub invariant_of-self-in-Ok-add_page : goal.invariant_of-self-in-Ok-add_page
invariant_of-self-in-Ok-add_page c =
    let h = c.self.inside in
    let p = added c in
    let l = limit_with_free_page h.pools c.in-Ok-add_page.page c.args.pool in
    let f = c.self.invariant.room in
    let g = c.append_page.ensures.room in
    let n = length-pages_from h.pools h.marks.items in
    let is = last c in
    let count = c.page_count-pages.ensures.count in
    let reserved : 1638 * (length h.pools.pages + 1) ≤ vec_capacity c.reserve_room.new.grey = let r = c.in-Ok.ensures.places in
    subst (λ n. 1638 * (n + 1) ≤ vec_capacity c.reserve_room.new.grey) count r in
    record {
      marks = subst (λ w. AreAllMarks w c.append_page.new.marks.items) (sym c.in-Ok-add_page.ensures.added)
          (added_marks h.pools h.marks.items c.append_page.new.marks.items c.in-Ok-add_page.page c.args.pool p.within p.long p.here p.other
          c.self.invariant.marks);
      room = subst (λ (w : PoolsView). w.limit ≤ vec_capacity c.append_page.new.marks) (sym c.in-Ok-add_page.ensures.added) (omega arith);
      places = subst (λ (w : PoolsView). 1638 * length w.pages ≤ vec_capacity c.reserve_room.new.grey) (sym c.in-Ok-add_page.ensures.added)
          (places_made h.pools c.in-Ok-add_page.page c.args.pool (vec_capacity c.reserve_room.new.grey) is reserved);
      coherent = subst IsCoherent (sym (view c)) (coherent_with_page (view_from h) c.in-Ok-add_page.page c.args.pool (omega arith)
          (get_or_past (view_from h).pages c.in-Ok-add_page.page no_page (omega arith)) c.self.invariant.coherent);
    }

pub returns-in-Ok-add_page-clause-added : goal.returns-in-Ok-add_page-clause-added
returns-in-Ok-add_page-clause-added c = (
  last c ∙ sym (length-pages_from c.self.inside.pools c.self.inside.marks.items) ∙ ap (λ (v : HeapView). length v.pages) c.self.view_is,
  view c ∙ ap (λ v. with_page v c.in-Ok-add_page.page c.args.pool) c.self.view_is,
)

pub returns-in-Ok-add_page-clause-swept : goal.returns-in-Ok-add_page-clause-swept
returns-in-Ok-add_page-clause-swept c =
    let is = last c in
    ap (λ (v : HeapView). is_unswept v c.in-Ok-add_page.page) (sym c.self.view_is)
    ∙ unswept_read c.self.inside.pools c.in-Ok-add_page.page
    ∙ past_unswept c.self.inside.pools c.in-Ok-add_page.page (omega arith)
