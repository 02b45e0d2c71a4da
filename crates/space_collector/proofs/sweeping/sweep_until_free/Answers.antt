use Rattle.std.proofs.Common.{subst, arith}
use Rattle.std.proofs.lemmas.Bool.Decides.{nat_tests}
use Rattle.space_model.specs.Layout.{pool_for}
use Rattle.space_heap.specs.HeapView.{HeapView}
use Rattle.space_collector.specs.PagesSwept.{SweepsUntilFree}
use Rattle.space_collector.proofs.NeededSweeps.{sweeps_some_more, sound_before, needed_run, none_needed}
use Rattle.space_collector.proofs.PageSweeps.{fewer_wait}
use Rattle.space_collector.proofs.sweeping.sweep_until_free.Goals as goal

pub needs_sweep-requires : goal.needs_sweep-requires
unfolding pool_for
needs_sweep-requires c = grind (arith, nat_tests, c.in-Some.ensures)

pub sweep_page-requires-clause-few : goal.sweep_page-requires-clause-few
sweep_page-requires-clause-few c =
    let all = needed_run c.args.heap.now _ c.in-Some.pool c.pages.heap _ c.pages.invariant in
    let most = all.most in
    omega arith

pub pages-smaller : goal.pages-smaller
pages-smaller c =
    let fewer = fewer_wait c.pages.heap c.sweep_page.new.heap c.sweep_page.ensures.swept.0.freed c.sweep_page.ensures.swept.0.sweeps c.sweep_page.ensures.sound in
    omega arith

pub pages-preserved : goal.pages-preserved
pages-preserved c =
    sweeps_some_more c.args.heap.now _ c.in-Some.pool c.pages.heap _ c.sweep_page.new.heap _ c.pages.invariant
    (c.needs_sweep.ensures.needs.0 c.pages-test.true).0 c.sweep_page.ensures.sound c.sweep_page.ensures.swept.0

pub returns : goal.returns
returns c =
    let v : HeapView = c.args.heap.now in
    let w : HeapView = c.pages.heap in
    let all = needed_run v _ c.in-Some.pool w _ c.pages.invariant in
    record {
      swept = subst (SweepsUntilFree v c.args.finals.now w c.pages.finals) c.in-Some.ensures.0 (all.ended (none_needed c.needs_sweep.result w c.in-Some.pool c.needs_sweep.ensures.needs c.pages-test.false));
      most = all.most;
      rest = all.rest;
      quiescent = all.quiescent c.requires.quiescent;
      sound_before = sound_before v _ c.in-Some.pool w _ c.pages.invariant c.needs_sweep.ensures.sound;
    }
