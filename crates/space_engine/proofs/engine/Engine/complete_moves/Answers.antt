-- Moves until the heap is packed, with their lines, and then the corrections.
use Rattle.std.proofs.Common.{◌≡◌, ap, sym, subst, ◌∙◌, arith}
use Rattle.space_model.specs.declared.phase.Phase.TheVariants.{Moving}
use Rattle.space_collector.specs.Quiescent.{IsQuiescent}
use Rattle.space_engine.specs.HeapCollections.{CompletesFixes}
use Rattle.space_engine.specs.Inside.{view_of}
use Rattle.space_engine.specs.Views.{View}
use Rattle.space_engine.proofs.CompactionEnds.{moves_told, moves_cut}
use Rattle.space_engine.proofs.CompactionWork.{fixing_quiescent, completes_moves_judged}
use Rattle.space_engine.proofs.Outcomes.{on_err}
use Rattle.space_engine.proofs.engine.Engine.complete_moves.Goals as goal

pub complete_fixes-requires-clause-quiescent : goal.complete_fixes-requires-clause-quiescent
complete_fixes-requires-clause-quiescent g c =
    let made = c.move_and_tell-told in
    let moving : c.self.inside.heap.phase ≡ Moving = ap (λ (v : View). v.heap.phase) c.self.view_is ∙ c.requires.moving in
    let quiescent = subst (λ (v : View). IsQuiescent v.heap) (sym c.self.view_is) c.requires.able.quiescent in
    rw c.begin_fixing.ensures (fixing_quiescent made.new.heap (made.ensures.keeps.phase ∙ moving) (made.ensures.quiescent moving quiescent))

pub returns-in_err-told-clause-fault : goal.returns-in_err-told-clause-fault
returns-in_err-told-clause-fault g c =
    let made = c.move_and_tell-told in
    let last = c.complete_fixes.new.self in
    let fixes = subst (λ (u : View). CompletesFixes u last) c.begin_fixing.ensures c.complete_fixes.ensures.fixes in
    on_err c.from_residual.result _
    (rw (← c.self.view_is)
    (moves_cut (view_of c.self.inside) last made.new.heap _ made.result.0.moved made.result.0.done (omega arith) fixes made.result.1 _ _
    made.ensures.told c.in_err-told.field-0.0 c.in_err-told.was))

pub returns-in_err-told-clause-judged : goal.returns-in_err-told-clause-judged
returns-in_err-told-clause-judged g c =
    let made = c.move_and_tell-told in
    let moving : c.self.inside.heap.phase ≡ Moving = ap (λ (v : View). v.heap.phase) c.self.view_is ∙ c.requires.moving in
    let quiescent = subst (λ (v : View). IsQuiescent v.heap) (sym c.self.view_is) c.requires.able.quiescent in
    rw (← c.self.view_is)
    (completes_moves_judged made.result.0.moved c.self.inside.heap made.new.heap c.begin_fixing.new.self c.complete_fixes.new.self
    (ap (λ (v : View). v.heap) c.begin_fixing.ensures) made.ensures.keeps made.ensures.told.moving.few (made.ensures.keeps.phase ∙ moving)
    (made.ensures.quiescent moving quiescent) c.complete_fixes.ensures.fixes)

pub returns-clause-done : goal.returns-clause-done
returns-clause-done g c =
    let made = c.move_and_tell-told in
    let last = c.complete_fixes.new.self in
    let fixes = subst (λ (u : View). CompletesFixes u last) c.begin_fixing.ensures c.complete_fixes.ensures.fixes in
    rw (← c.self.view_is)
    (moves_told (view_of c.self.inside) last made.new.heap _ made.result.0.moved made.result.0.done (omega arith) fixes made.result.1 _ _
    made.ensures.told c.in_ok-told.field-0 c.in_ok-told.was)

pub returns-clause-judged : goal.returns-clause-judged
returns-clause-judged g c =
    let made = c.move_and_tell-told in
    let moving : c.self.inside.heap.phase ≡ Moving = ap (λ (v : View). v.heap.phase) c.self.view_is ∙ c.requires.moving in
    let quiescent = subst (λ (v : View). IsQuiescent v.heap) (sym c.self.view_is) c.requires.able.quiescent in
    rw (← c.self.view_is)
    (completes_moves_judged made.result.0.moved c.self.inside.heap made.new.heap c.begin_fixing.new.self c.complete_fixes.new.self
    (ap (λ (v : View). v.heap) c.begin_fixing.ensures) made.ensures.keeps made.ensures.told.moving.few (made.ensures.keeps.phase ∙ moving)
    (made.ensures.quiescent moving quiescent) c.complete_fixes.ensures.fixes)
