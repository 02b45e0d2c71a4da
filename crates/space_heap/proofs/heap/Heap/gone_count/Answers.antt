use Rattle.std.proofs.Common.{◌≡◌, length, sym, ap, ◌∙◌, subst, arith}
use Rattle.std.specs.Prelude.{count_by}
use Rattle.std.proofs.lemmas.Bool.{and_parts}
use Rattle.space_model.specs.Counts.{CountIs}
use Rattle.space_planes.specs.Planes.{count_set}
use Rattle.space_pools.specs.PoolsView.{page_at as pools_page}
use Rattle.space_heap.specs.declared.heap.Heap.TheInside.{Inside}
use Rattle.space_heap.specs.declared.marks.Marks.{Marks}
use Rattle.space_heap.specs.HeapView.{PageView, HeapView, page_at}
use Rattle.space_heap.specs.planes.MarkPlanes.{marks_at}
use Rattle.space_heap.specs.SoundHeap.{IsSoundHeap}
use Rattle.space_heap.specs.Sweeping.{has_gone, IsGone, IsGoneOn}
use Rattle.space_heap.specs.Inside.{view_from, rest_of}
use Rattle.space_heap.proofs.Laws.{page_in_heap}
use Rattle.space_heap.proofs.ObjectLaws.{slot_from_occupied}
use Rattle.space_heap.proofs.fields.Views.{length-pages_from, page_read}
use Rattle.space_heap.proofs.fields.SoundViews.{sound_read}
use Rattle.space_heap.proofs.updates.SweptSlots.{gone_count}
use Rattle.space_heap.proofs.FreedCounts.{gone_most}
use Rattle.space_heap.proofs.GoneCounts.{gone_on_page}
use Rattle.space_heap.proofs.CountedPages.{IsBelow, none_below, page_more, all_pages}
use Rattle.space_heap.proofs.heap.Heap.gone_count.Goals as goal

pub pages-init : goal.pages-init
pages-init c = record { counted = none_below (IsGone c.args.self.now); few = omega arith }

pub pages-preserved : goal.pages-preserved
pages-preserved c =
    let h : Inside = c.self.inside in
    let v : HeapView = view_from h in
    let page = c.pages.page in
    let sound = sound_read h.pools h.marks.items (rest_of h) c.page_count-page-end.ensures.sound in
    let count : c.from-count.result ≡ count_by has_gone (page_at v page).slots =
    c.from-count.ensures
    ∙ c.count.ensures
    ∙ ap (λ (m : Marks). count_set m.gone) c.marks_of.ensures
    ∙ gone_count (pools_page h.pools page) (marks_at h.marks.items page) (c.self.invariant.marks.of_page page)
    ∙ ap (λ (p : PageView). count_by has_gone p.slots) (sym (page_read h.pools h.marks.items page)) in
    let most = gone_most v page sound in
    let few = c.pages.invariant.few in
    record {
      counted = page_more (IsGone c.args.self.now) page c.pages.count c.from-count.result c.pages.invariant.counted
          (subst (λ v. CountIs (IsGoneOn v page) c.from-count.result) c.self.view_is
          (subst (CountIs (IsGoneOn v page)) (sym count) (gone_on_page v page sound)));
      few = omega arith;
    }

pub returns-clause-gone : goal.returns-clause-gone
returns-clause-gone c =
    let h : Inside = c.self.inside in
    let n = length-pages_from h.pools h.marks.items in
    let e = ap (λ (v : HeapView). length v.pages) c.self.view_is in
    let count = c.page_count-page-end.ensures.count in
    let end : c.pages.page ≡ length c.args.self.now.pages = omega arith in
    all_pages (IsGone c.args.self.now) (length c.args.self.now.pages) c.pages.count
    (λ a g. page_in_heap c.args.self.now a (slot_from_occupied c.args.self.now a (and_parts _ _ g).0))
    (subst (λ k. CountIs (IsBelow (IsGone c.args.self.now) k) c.pages.count) end c.pages.invariant.counted)

pub returns-clause-sound : goal.returns-clause-sound
returns-clause-sound c = let h : Inside = c.self.inside in
    subst IsSoundHeap c.self.view_is (sound_read h.pools h.marks.items (rest_of h) c.page_count-page-end.ensures.sound)
