-- A marking is ended and then pages are swept, or pages alone are.
use Rattle.std.proofs.Common.{rules, ◌≡◌, ◌≢◌, sym, ap, ◌∙◌, subst}
use Rattle.space_model.specs.declared.phase.Phase.TheVariants.{Idle, Marking, Sweeping}
use Rattle.space_heap.specs.HeapView.{HeapView}
use Rattle.space_heap.specs.SoundHeap.{IsSoundHeap}
use Rattle.space_roots.specs.WordRoots.{root_words}
use Rattle.space_collector.specs.declared.collection.Collected.{Collected}
use Rattle.space_collector.specs.PagesSwept.{SweepsAll}
use Rattle.space_engine.specs.Views.{View, with_swept}
use Rattle.space_engine.proofs.Completing.{sweeps_judged, ended_done, ended_fault, ended_idle, swept_done, swept_idle}
use Rattle.space_engine.proofs.Purges.{completed_is, completed_marking, completed_unmarked}
use Rattle.space_engine.proofs.engine.Engine.complete_at_rest.Goals.{then-eq, else-eq}
use Rattle.space_engine.proofs.engine.Engine.complete_at_rest.Goals as goal

pub returns-clause-done : goal.returns-clause-done
returns-clause-done g c = elim c.if-eq.branch [
  | then-eq w ↦
      let old = c.args.self.now in
      let new = c.sweep_all.new in
      let ended = w.end_marking-ended in
      let marking : old.heap.phase ≡ Marking = search rules in
      let sweeps = sweeps_judged old _ ended.new.self new.heap new.finals (c.self-2.view_is ∙ w.self-is) ended.ensures.rest c.sweep_all.ensures.swept in
      rw (w.ended-is, w.sink-is)
      (ended_done old.heap ended.new.self.heap old.finals new.heap new.finals (root_words old.roots) old.stack marking sweeps
      ended.result (λ (ended : Collected). ended.scans) (λ (ended : Collected). ended.gone) _ _ ended.ensures.done)
  | else-eq w ↦
      let old = c.args.self.now in
      let new = c.sweep_all.new in
      let other : old.heap.phase ≢ Marking = search rules in
      let same = c.self-2.view_is ∙ w.self-is in
      let sound = subst (λ (v : View). IsSoundHeap v.heap) same c.sweep_all.ensures.sound_before in
      let sweeps = subst (λ (v : View). SweepsAll v.heap v.finals new.heap new.finals) same c.sweep_all.ensures.swept in
      rw (w.ended-is, w.sink-is) (swept_done old.heap old.finals new.heap new.finals (root_words old.roots) old.stack other sound sweeps _)
]

pub returns-clause-fault : goal.returns-clause-fault
returns-clause-fault g c = elim c.if-eq.branch [
  | then-eq w ↦
      let old = c.args.self.now in
      let new = c.sweep_all.new in
      let ended = w.end_marking-ended in
      let marking : old.heap.phase ≡ Marking = search rules in
      let sweeps = sweeps_judged old _ ended.new.self new.heap new.finals (c.self-2.view_is ∙ w.self-is) ended.ensures.rest c.sweep_all.ensures.swept in
      rw (w.ended-is, w.sink-is)
      (ended_fault old.heap ended.new.self.heap old.finals new.heap new.finals (root_words old.roots) old.stack marking sweeps
      ended.result (λ (ended : Collected). ended.scans) (λ (ended : Collected). ended.gone) _ _ ended.ensures.fault)
  | else-eq w ↦ rw w.ended-is tt
]

pub returns-clause-idle : goal.returns-clause-idle
returns-clause-idle g c = elim c.if-eq.branch [
  | then-eq w ↦
      let old = c.args.self.now in
      let new = c.sweep_all.new in
      let ended = w.end_marking-ended in
      let marking : old.heap.phase ≡ Marking = search rules in
      let judged = ap (λ (v : View). v.heap) (c.self-2.view_is ∙ w.self-is) in
      let sweeps = sweeps_judged old _ ended.new.self new.heap new.finals (c.self-2.view_is ∙ w.self-is) ended.ensures.rest c.sweep_all.ensures.swept in
      ended_idle old.heap ended.new.self.heap old.finals new.heap new.finals (root_words old.roots) old.stack marking sweeps
      ended.result (λ (ended : Collected). ended.scans) (λ (ended : Collected). ended.gone) _ _ ended.ensures.done ended.ensures.fault
      (subst (λ (heap : HeapView). heap.phase ≡ Sweeping → new.heap.phase ≡ Idle) judged c.sweep_all.ensures.idle)
      (subst (λ (heap : HeapView). heap.phase ≢ Sweeping → new.heap ≡ heap) judged c.sweep_all.ensures.same)
  | else-eq w ↦
      let old = c.args.self.now in
      let new = c.sweep_all.new in
      let other : old.heap.phase ≢ Marking = search rules in
      let same = c.self-2.view_is ∙ w.self-is in
      let sound = subst (λ (v : View). IsSoundHeap v.heap) same c.sweep_all.ensures.sound_before in
      let sweeps = subst (λ (v : View). SweepsAll v.heap v.finals new.heap new.finals) same c.sweep_all.ensures.swept in
      swept_idle old.heap old.finals new.heap new.finals (root_words old.roots) old.stack other sound sweeps c.requires.rests
      (subst (λ (v : View). v.heap.phase ≡ Sweeping → new.heap.phase ≡ Idle) same c.sweep_all.ensures.idle)
      (subst (λ (v : View). v.heap.phase ≢ Sweeping → new.heap ≡ v.heap) same c.sweep_all.ensures.same)
]

pub returns-clause-rest : goal.returns-clause-rest
returns-clause-rest g c = elim c.if-eq.branch [
  | then-eq w ↦
      let old = c.args.self.now in
      let new = c.sweep_all.new in
      let ended = w.end_marking-ended in
      let marking : old.heap.phase ≡ Marking = search rules in
      let sweeps = sweeps_judged old _ ended.new.self new.heap new.finals (c.self-2.view_is ∙ w.self-is) ended.ensures.rest c.sweep_all.ensures.swept in
      ap (λ (v : View). with_swept v new.heap new.finals) (c.self-2.view_is ∙ w.self-is ∙ ended.ensures.rest)
      ∙ sym (completed_marking old ended.new.self.heap new.heap new.finals marking sweeps)
      ∙ sym (completed_is old new.heap new.finals)
  | else-eq w ↦
      let old = c.args.self.now in
      let new = c.sweep_all.new in
      let other : old.heap.phase ≢ Marking = search rules in
      ap (λ (v : View). with_swept v new.heap new.finals) (c.self-2.view_is ∙ w.self-is)
      ∙ sym (completed_unmarked old new.heap new.finals other)
      ∙ sym (completed_is old new.heap new.finals)
]
