use Rattle.std.proofs.Common.{◌≡◌, length, min, ap, subst, refl, sym, arith}
use Rattle.space_heap.specs.HeapView.{HeapView}
use Rattle.space_sweep.specs.Sweeps.{SweepsFirst}
use Rattle.space_collector.specs.PagesSwept.{SweepsPages}
use Rattle.space_collector.proofs.AllSweeps.{run, freed_most}
use Rattle.space_collector.proofs.HeapSweeps.{heap_pages, sweeps_more}
use Rattle.space_collector.proofs.PageSweeps.{freed-first, freed_most-first}
use Rattle.space_collector.proofs.sweeping.sweep_pages.Goals as goal

pub sweep_page-freed-requires-clause-some : goal.sweep_page-freed-requires-clause-some
sweep_page-freed-requires-clause-some c = λ none.
    let all = run c.pages.counter c.args.heap.now c.pages.heap (λ more. c.pages.invariant.sound) (heap_pages _ _ _ _ _ c.pages.invariant.swept) in
    let left = all.left in
    let nothing : length c.pages.heap.unswept ≡ 0 = ap length none in
    grind (arith, left, nothing)

pub sweep_page-freed-requires-clause-few : goal.sweep_page-freed-requires-clause-few
sweep_page-freed-requires-clause-few c =
    let most = freed_most c.pages.counter c.args.heap.now c.pages.heap (λ more. c.pages.invariant.sound) (heap_pages _ _ _ _ _ c.pages.invariant.swept) in
    omega arith

pub overflow_add-freed : goal.overflow_add-freed
overflow_add-freed c =
    let most = freed_most c.pages.counter c.args.heap.now c.pages.heap (λ more. c.pages.invariant.sound) (heap_pages _ _ _ _ _ c.pages.invariant.swept) in
    let page = c.sweep_page-freed.ensures.swept in
    let one = freed_most-first c.pages.heap c.sweep_page-freed.new.heap page.0.freed page.0.sweeps c.sweep_page-freed.ensures.sound in
    let rises = freed-first c.pages.heap c.sweep_page-freed.new.heap page.0.freed page.0.sweeps c.sweep_page-freed.ensures.sound in
    let same = page.1 in
    omega arith

pub pages-preserved : goal.pages-preserved
pages-preserved c =
    let page = c.sweep_page-freed.ensures.swept in
    let rises = freed-first c.pages.heap c.sweep_page-freed.new.heap page.0.freed page.0.sweeps c.sweep_page-freed.ensures.sound in
    let same = page.1 in
    record {
      sound = c.pages.invariant.sound;
      swept = sweeps_more c.pages.counter _ _ _ _ _ _ c.pages.invariant.swept page.0;
      freed = omega arith;
    }

pub returns : goal.returns
returns c =
    let v : HeapView = c.args.heap.now in
    let was = c.pages.invariant in
    let heap = heap_pages _ _ _ _ _ was.swept in
    let all = run c.pages.counter v c.pages.heap (λ more. was.sound) heap in
    let left = all.left in
    let counted = all.counted in
    let most = freed_most c.pages.counter v c.pages.heap (λ more. was.sound) heap in
    let pages : c.pages.counter ≡ min c.args.count (length v.unswept) = grind arith in
    record {
      swept = subst (λ pages. SweepsPages pages v c.args.finals.now c.pages.heap c.pages.finals) pages was.swept;
      left = omega arith;
      freed = was.freed;
      gone = omega arith;
      most = omega arith;
      rest = all.rest;
      quiescent = all.quiescent c.requires.quiescent;
      sound_before = was.sound;
      sound = all.sound was.sound;
    }
