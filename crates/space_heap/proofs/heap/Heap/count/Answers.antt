use Rattle.std.proofs.Common.{◌≡◌, length, sym, ◌∙◌, subst, arith}
use Rattle.std.specs.Prelude.{count_by}
use Rattle.space_model.specs.Counts.{CountIs}
use Rattle.space_heap.specs.HeapView.{HeapView, page_at}
use Rattle.space_heap.specs.planes.CountedSlots.{has_counted, IsCounted}
use Rattle.space_heap.proofs.PageCounts.{count_on_page}
use Rattle.space_heap.proofs.CountedPages.{IsBelow, IsOn, none_below, page_more, all_pages}
use Rattle.space_heap.proofs.CountedSlots.{counted_tested, counted_within, counted_most}
use Rattle.space_heap.proofs.heap.Heap.count.Goals as goal

pub pages-init : goal.pages-init
pages-init c = record { all = none_below (IsCounted c.args.counted c.args.self.now); few = omega arith }

pub pages-preserved : goal.pages-preserved
pages-preserved c =
    let v : HeapView = c.args.self.now in
    let page = c.pages.page in
    let sound = c.page_count-page-end.ensures.sound in
    let has = has_counted c.args.counted in
    let count : c.from-count.result ≡ count_by has (page_at v page).slots = c.from-count.ensures ∙ c.count_on.ensures in
    let most = counted_most has v page sound in
    let few = c.pages.invariant.few in
    record {
      all = page_more (IsCounted c.args.counted v) page c.pages.count c.from-count.result c.pages.invariant.all
          (subst (CountIs (IsOn (IsCounted c.args.counted v) page)) (sym count)
          (count_on_page has v page sound (IsCounted c.args.counted v) (counted_tested c.args.counted v)));
      few = omega arith;
    }

pub returns : goal.returns
returns c =
    let v : HeapView = c.args.self.now in
    let count = c.page_count-page-end.ensures.count in
    let end : c.pages.page ≡ length v.pages = omega arith in
    all_pages (IsCounted c.args.counted v) (length v.pages) c.pages.count (counted_within c.args.counted v)
    (subst (λ k. CountIs (IsBelow (IsCounted c.args.counted v) k) c.pages.count) end c.pages.invariant.all)
