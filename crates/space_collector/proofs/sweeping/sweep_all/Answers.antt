use Rattle.std.proofs.Common.{◌≡◌, [], length, min, ◌∙◌, subst, arith, ⊎_elim}
use Rattle.std.proofs.lemmas.List.{nil_from_length}
use Rattle.space_heap.specs.HeapView.{HeapView}
use Rattle.space_sweep.proofs.GoneWaits.{none_gone_waiting}
use Rattle.space_collector.specs.PagesSwept.{SweepsPages, SweepsAll}
use Rattle.space_collector.proofs.AllSweeps.{no_names}
use Rattle.space_collector.proofs.HeapSweeps.{sweeps_none}
use Rattle.space_collector.proofs.sweeping.sweep_all.Goals as goal

pub returns : goal.returns
returns c =
    let v : HeapView = c.args.heap.now in
    let w : HeapView = c.sweep_pages.new.heap in
    let all = c.sweep_pages.ensures in
    let count = c.unswept-pages.ensures.count in
    let left = all.left in
    let pages : min c.from.result (length v.unswept) ≡ length v.unswept = grind (arith, count, c.from.ensures) in
    let swept : SweepsAll v c.args.finals.now w c.sweep_pages.new.finals =
    subst (λ pages. SweepsPages pages v c.args.finals.now w c.sweep_pages.new.finals) pages all.swept in
    let none : w.unswept ≡ [] = nil_from_length w.unswept (omega arith) in
    let gone = no_names w (none_gone_waiting w all.quiescent.gone_wait none) in
    let freed = all.freed in
    let names = all.gone in
    let most = all.most in
    record {
      swept = swept;
      none_waits = none;
      freed = omega arith;
      most = omega arith;
      idle = λ began. ⊎_elim (λ same. absurd (all.quiescent.some_wait (same ∙ began) none)) (λ idle. idle) all.rest.phase;
      same = λ other. (sweeps_none v _ w _ (c.requires.quiescent.none_waits other) swept).0;
      none_queued = λ other. (sweeps_none v _ w _ (c.requires.quiescent.none_waits other) swept).1;
      rest = all.rest;
      quiescent = all.quiescent;
      sound_before = all.sound_before;
      sound = all.sound;
    }
