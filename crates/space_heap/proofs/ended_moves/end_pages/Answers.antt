use Rattle.std.proofs.Common.{◌<◌, ⊎_elim, length, ap, ◌∙◌, arith}
use Rattle.std.proofs.lemmas.Bool.{cases_eq}
use Rattle.std.proofs.lemmas.List.Edits.{map_over_more}
use Rattle.space_pools.specs.PoolsView.{unswept_at}
use Rattle.space_heap.specs.Relocation.{ended_page}
use Rattle.space_heap.specs.Inside.{page_in, pages_from}
use Rattle.space_heap.proofs.fields.Views.{length-pages_from}
use Rattle.space_heap.proofs.updates.EndedPages.{page_listed, mapped_all}
use Rattle.space_heap.proofs.ended_moves.end_pages.Goals as goal

pub pages-preserved : goal.pages-preserved
pages-preserved c =
    let e = c.end_page.ensures.ended in
    let i = c.pages.invariant in
    let v = c.args.pools.now in
    let ms = c.args.marks.now.items in
    let t = c.pages-test.true in
    let n = c.page_count-page-end.ensures.count in
    let within : c.pages.page < length (pages_from v ms) = let l = length-pages_from v ms in omega arith in
    let listed = page_listed c.pages.pools c.pages.marks.items c.pages.page _ (let m = i.count in omega arith) in
    record {
      limit = e.limit ∙ i.limit;
      count = e.count ∙ i.count;
      pages = e.pages ∙ map_over_more ended_page (pages_from v ms) (pages_from c.pages.pools c.pages.marks.items) c.pages.page
          (page_in c.pages.pools c.pages.marks.items c.pages.page) within i.pages listed;
      swept = λ k low. ⊎_elim
          (λ same. ap (unswept_at c.end_page.new.pools) same ∙ e.swept)
          (λ differ. e.others k differ ∙ i.swept k (omega arith))
          (cases_eq k c.pages.page);
      all = e.all;
      room = c.end_page.ensures.room ∙ i.room;
    }

pub returns-clause-ended : goal.returns-clause-ended
returns-clause-ended c =
    let i = c.pages.invariant in
    let v = c.args.pools.now in
    let ms = c.args.marks.now.items in
    let n = c.page_count-page-end.ensures.count in
    let t = c.pages-test.false in
    record {
      limit = i.limit;
      count = i.count;
      pages = i.pages ∙ mapped_all ended_page (pages_from v ms) c.pages.page (let l = length-pages_from v ms in omega arith);
      swept = λ k low. i.swept k (let m = i.count in omega arith);
      all = i.all;
    }
