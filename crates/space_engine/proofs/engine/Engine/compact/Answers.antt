-- A whole collection, the sweep of all pages, and then objects may move.
use Rattle.std.proofs.Common.{◌≡◌, ◌≢◌, ◌+◌, ◌≤◌, ap, subst}
use Rattle.space_model.specs.declared.phase.Phase.TheVariants.{Idle, Sweeping}
use Rattle.space_heap.specs.SoundHeap.{IsSoundHeap}
use Rattle.space_collector.specs.PagesSwept.{LeavesRest, SweepsAll}
use Rattle.space_collector.specs.Quiescent.{most_slots}
use Rattle.space_engine.specs.Views.{View, moving_begun, with_swept}
use Rattle.space_engine.proofs.CompactionCommands.{idle_after, compact_answered, compact_cut_off, compact_turn}
use Rattle.space_engine.proofs.Outcomes.{on_err}
use Rattle.space_engine.proofs.engine.Engine.compact.Goals as goal

pub returns-in_err-scans-clause-fault : goal.returns-in_err-scans-clause-fault
returns-in_err-scans-clause-fault g c =
    let first = c.collect_and_tell-collected in
    let swept = c.sweep_all in
    let idle = idle_after first.new.self.heap swept.new.heap first.ensures.settled
    (subst (λ (u : View). u.heap.phase ≡ Sweeping → swept.new.heap.phase ≡ Idle) c.self.view_is swept.ensures.idle)
    (subst (λ (u : View). u.heap.phase ≢ Sweeping → swept.new.heap ≡ u.heap) c.self.view_is swept.ensures.same) in
    on_err c.from_residual.result _
    (rw c.set_phase.ensures (compact_cut_off c.args.self.now first.new.self _ c.requires.able swept.new.heap swept.new.finals
    (subst (λ (u : View). IsSoundHeap u.heap) c.self.view_is swept.ensures.sound_before)
    (subst (λ (u : View). SweepsAll u.heap u.finals swept.new.heap swept.new.finals) c.self.view_is swept.ensures.swept) idle
    (ap (λ (u : View). moving_begun (with_swept u swept.new.heap swept.new.finals)) c.self.view_is)
    _ _ c.in_err-scans.ensures.fault))

pub returns-in_err-scans-clause-turn : goal.returns-in_err-scans-clause-turn
returns-in_err-scans-clause-turn g c =
    let first = c.collect_and_tell-collected in
    let swept = c.sweep_all in
    let idle = idle_after first.new.self.heap swept.new.heap first.ensures.settled
    (subst (λ (u : View). u.heap.phase ≡ Sweeping → swept.new.heap.phase ≡ Idle) c.self.view_is swept.ensures.idle)
    (subst (λ (u : View). u.heap.phase ≢ Sweeping → swept.new.heap ≡ u.heap) c.self.view_is swept.ensures.same) in
    rw c.set_phase.ensures
    (compact_turn c.args.self.now.heap first.new.self.heap swept.new.heap first.ensures.judged
    (subst (λ (u : View). LeavesRest u.heap swept.new.heap) c.self.view_is swept.ensures.rest)
    (subst (λ (u : View). swept.new.heap.counters.freed ≤ u.heap.counters.freed + most_slots) c.self.view_is swept.ensures.most)
    swept.ensures.quiescent idle)

pub returns-clause-done : goal.returns-clause-done
returns-clause-done g c =
    let first = c.collect_and_tell-collected in
    let swept = c.sweep_all in
    let idle = idle_after first.new.self.heap swept.new.heap first.ensures.settled
    (subst (λ (u : View). u.heap.phase ≡ Sweeping → swept.new.heap.phase ≡ Idle) c.self.view_is swept.ensures.idle)
    (subst (λ (u : View). u.heap.phase ≢ Sweeping → swept.new.heap ≡ u.heap) c.self.view_is swept.ensures.same) in
    rw c.set_phase.ensures (compact_answered c.args.self.now first.new.self _ c.requires.able swept.new.heap swept.new.finals
    (subst (λ (u : View). IsSoundHeap u.heap) c.self.view_is swept.ensures.sound_before)
    (subst (λ (u : View). SweepsAll u.heap u.finals swept.new.heap swept.new.finals) c.self.view_is swept.ensures.swept) idle
    (ap (λ (u : View). moving_begun (with_swept u swept.new.heap swept.new.finals)) c.self.view_is)
    c.in_ok-scans.field-0.scans c.in_ok-scans.field-0.gone c.in_ok-scans.field-0.moves _ _ _ _ c.in_ok-scans.ensures.done)

pub returns-clause-turn : goal.returns-clause-turn
returns-clause-turn g c =
    let first = c.collect_and_tell-collected in
    let swept = c.sweep_all in
    let idle = idle_after first.new.self.heap swept.new.heap first.ensures.settled
    (subst (λ (u : View). u.heap.phase ≡ Sweeping → swept.new.heap.phase ≡ Idle) c.self.view_is swept.ensures.idle)
    (subst (λ (u : View). u.heap.phase ≢ Sweeping → swept.new.heap ≡ u.heap) c.self.view_is swept.ensures.same) in
    rw c.set_phase.ensures
    (compact_turn c.args.self.now.heap first.new.self.heap swept.new.heap first.ensures.judged
    (subst (λ (u : View). LeavesRest u.heap swept.new.heap) c.self.view_is swept.ensures.rest)
    (subst (λ (u : View). swept.new.heap.counters.freed ≤ u.heap.counters.freed + most_slots) c.self.view_is swept.ensures.most)
    swept.ensures.quiescent idle)
