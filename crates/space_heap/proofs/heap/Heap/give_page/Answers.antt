use Rattle.std.proofs.Common.{◌≡◌, ◌*◌, ◌≤◌, length, set, refl, sym, ap, ◌∙◌, subst, arith}
use Rattle.std.specs.Prelude.{vec_capacity}
use Rattle.space_pools.specs.PoolsView.{PoolsView}
use Rattle.space_pools.specs.Spare as pools
use Rattle.space_heap.specs.HeapView.{HeapView, no_page, page_at, is_unswept, with_page}
use Rattle.space_heap.specs.NewPages.{HasNoSpare, IsLeastSpare}
use Rattle.space_heap.specs.planes.MarkPlanes.{clear_marks}
use Rattle.space_heap.specs.Marking.{IsCoherent}
use Rattle.space_heap.specs.Inside.{view_with, view_from, AreAllMarks, rest_of}
use Rattle.space_heap.proofs.fields.Views.{length-pages_from}
use Rattle.space_heap.proofs.fields.Unswept.{unswept_read}
use Rattle.space_heap.proofs.NewPages.{no_spare_read, least_spare_read, empty_read, page_reset, next_spare, added_view, added_marks, limit_with_free_page, places_kept}
use Rattle.space_heap.proofs.Coherence.{coherent_with_page}
use Rattle.space_heap.proofs.heap.Heap.give_page.Goals as goal
use Rattle.space_heap.specs.declared.heap.Heap.TheInside.{Inside}

-- where no page is spare there are as many as the limit allows
is_full : (h : Inside) (now : HeapView) → view_from h ≡ now → (HasNoSpare now → length now.pages ≡ now.limit) → pools.HasNoSpare h.pools
    → length h.pools.pages ≡ h.pools.limit
is_full h now is full none =
    let e = full (subst HasNoSpare is (no_spare_read h.pools h.marks.items (rest_of h) none)) in
    let n = length-pages_from h.pools h.marks.items in
    let a = ap (λ (v : HeapView). length v.pages) is in
    let l = ap (λ (v : HeapView). v.limit) is in
    omega arith

pub reset_page-requires-clause-there : goal.reset_page-requires-clause-there
reset_page-requires-clause-there c =
    let h = c.self.inside in
    let s = next_spare h.pools c.in-Ok.page (is_full h c.args.self.now c.self.view_is c.requires.full) c.in-Ok.ensures.next in
    let b = s.spare.0 in
    let m = c.self.invariant.marks.all in
    omega arith

-- the page was the lowest spare one
spare : (c : goal.After-reset_page) → pools.IsLeastSpare c.self.inside.pools c.in-Ok.page
spare c = next_spare c.self.inside.pools c.in-Ok.page (is_full c.self.inside c.args.self.now c.self.view_is c.requires.full) c.in-Ok.ensures.next

empty : (c : goal.After-reset_page) → page_at (view_from c.self.inside) c.in-Ok.page ≡ no_page
empty c = let h = c.self.inside in empty_read h.pools h.marks.items (rest_of h) c.in-Ok.page c.add_page.ensures.sound (spare c).spare.1

-- the view after the pool got the page
view : (c : goal.After-reset_page) → view_with c.add_page.new.self c.reset_page.new.marks.items (rest_of c.self.inside) ≡ with_page (view_from c.self.inside)
    c.in-Ok.page c.args.pool
view c =
    let h = c.self.inside in
    let items = c.reset_page.ensures.items ∙ ap (λ n. set h.marks.items c.in-Ok.page (clear_marks n)) c.slot_count-slots.ensures.count in
    let p = page_reset h.pools h.marks.items c.reset_page.new.marks.items c.in-Ok.page c.args.pool c.self.invariant.marks.all (spare c).spare.0 items in
    ap (λ w. view_with w c.reset_page.new.marks.items (rest_of h)) c.in-Ok.ensures.added
    ∙ added_view h.pools h.marks.items c.reset_page.new.marks.items c.in-Ok.page c.args.pool p.within p.long p.here p.other
    ((c.add_page.ensures.sound.sound c.in-Ok.page).swept (spare c).spare.1) (rest_of h)

pub invariant_of-self : goal.invariant_of-self
invariant_of-self c =
    let h = c.self.inside in
    let s = next_spare h.pools c.in-Ok.page (is_full h c.args.self.now c.self.view_is c.requires.full) c.in-Ok.ensures.next in
    let items = c.reset_page.ensures.items ∙ ap (λ n. set h.marks.items c.in-Ok.page (clear_marks n)) c.slot_count-slots.ensures.count in
    let p = page_reset h.pools h.marks.items c.reset_page.new.marks.items c.in-Ok.page c.args.pool c.self.invariant.marks.all s.spare.0 items in
    let l = limit_with_free_page h.pools c.in-Ok.page c.args.pool in
    let f = c.self.invariant.room in
    let g = c.reset_page.ensures.room in
    record {
      marks = subst (λ w. AreAllMarks w c.reset_page.new.marks.items) (sym c.in-Ok.ensures.added)
          (added_marks h.pools h.marks.items c.reset_page.new.marks.items c.in-Ok.page c.args.pool p.within p.long p.here p.other c.self.invariant.marks);
      room = subst (λ (w : PoolsView). w.limit ≤ vec_capacity c.reset_page.new.marks) (sym c.in-Ok.ensures.added) (omega arith);
      places = subst (λ (w : PoolsView). 1638 * length w.pages ≤ vec_capacity h.grey) (sym c.in-Ok.ensures.added)
          (places_kept h.pools c.in-Ok.page c.args.pool (vec_capacity h.grey) s.spare.0 c.self.invariant.places);
      coherent = subst IsCoherent (sym (view c)) (coherent_with_page (view_from h) c.in-Ok.page c.args.pool
          (subst (λ n. c.in-Ok.page ≤ n) (sym (length-pages_from h.pools h.marks.items)) p.within) (empty c) c.self.invariant.coherent);
    }

pub returns-in-Ok-clause-next : goal.returns-in-Ok-clause-next
returns-in-Ok-clause-next c =
    let h = c.self.inside in
    let s = next_spare h.pools c.in-Ok.page (is_full h c.args.self.now c.self.view_is c.requires.full) c.in-Ok.ensures.next in
    subst (λ v. IsLeastSpare v c.in-Ok.page) c.self.view_is (least_spare_read h.pools h.marks.items (rest_of h) c.in-Ok.page s)

pub returns-in-Ok-clause-added : goal.returns-in-Ok-clause-added
returns-in-Ok-clause-added c = view c ∙ ap (λ v. with_page v c.in-Ok.page c.args.pool) c.self.view_is

pub returns-in-Ok-clause-empty : goal.returns-in-Ok-clause-empty
returns-in-Ok-clause-empty c = ap (λ v. page_at v c.in-Ok.page) (sym c.self.view_is) ∙ empty c

pub returns-in-Ok-clause-at_limit : goal.returns-in-Ok-clause-at_limit
returns-in-Ok-clause-at_limit c =
    let h = c.self.inside in
    let s = next_spare h.pools c.in-Ok.page (is_full h c.args.self.now c.self.view_is c.requires.full) c.in-Ok.ensures.next in
    let l = subst (λ v. IsLeastSpare v c.in-Ok.page) c.self.view_is (least_spare_read h.pools h.marks.items (rest_of h) c.in-Ok.page s) in
    (λ e. cc, λ none. absurd (none c.in-Ok.page l.spare))

pub returns-in-Err-clause-at_limit : goal.returns-in-Err-clause-at_limit
returns-in-Err-clause-at_limit c =
    let h = c.self.inside in
    let none = subst HasNoSpare c.self.view_is (no_spare_read h.pools h.marks.items (rest_of h) c.in-Err.ensures.none_spare) in
    (λ e. none, λ e. refl)

pub returns-in-Err-clause-none_spare : goal.returns-in-Err-clause-none_spare
returns-in-Err-clause-none_spare c =
    let h = c.self.inside in
    subst HasNoSpare c.self.view_is (no_spare_read h.pools h.marks.items (rest_of h) c.in-Err.ensures.none_spare)

pub returns-in-Ok-clause-swept : goal.returns-in-Ok-clause-swept
returns-in-Ok-clause-swept c =
    ap (λ (v : HeapView). is_unswept v c.in-Ok.page) (sym c.self.view_is)
    ∙ unswept_read c.self.inside.pools c.in-Ok.page
    ∙ (c.add_page.ensures.sound.sound c.in-Ok.page).swept (spare c).spare.1
