-- Visits, and the end of the compaction where none is left.
use Rattle.std.proofs.Common.{ap, ◌≡◌, ◌∙◌, arith}
use Rattle.space_model.specs.declared.phase.Phase.TheVariants.{Fixing}
use Rattle.space_heap.specs.HeapView.{Counters}
use Rattle.space_engine.specs.Inside.{view_of}
use Rattle.space_engine.specs.Views.{View}
use Rattle.space_engine.proofs.CompactionCommands.{fix_ended, fix_went_on, fix_work, fix_work_ended}
use Rattle.space_engine.proofs.CompactionWork.{visits_keep, fixes_work}
use Rattle.space_engine.proofs.engine.Engine.fix_some.Goals as goal

pub end_compaction-requires : goal.end_compaction-requires
end_compaction-requires g c =
    let kept = visits_keep c.fix-fixed.result.slots c.self.inside.heap c.fix-fixed.new.heap c.fix-fixed.ensures.visits in
    let same = ap (λ (k : Counters). k.compactions) kept.counters in
    let before = ap (λ (v : View). v.heap.counters.compactions) c.self.view_is in
    let few = c.requires.few in
    record { few = omega (arith, same, before, few) }

pub returns-then-fixed-clause-answers : goal.returns-then-fixed-clause-answers
returns-then-fixed-clause-answers g c =
    let fixed = c.fix-fixed.ensures in
    let fixing : c.self.inside.heap.phase ≡ Fixing = ap (λ (v : View). v.heap.phase) c.self.view_is ∙ c.requires.fixing in
    rw (← c.self.view_is, c.end_compaction.ensures.ended, c.if-fixed.true)
    (λ s h. fix_ended (view_of c.self.inside) s h fixing c.args.count c.fix-fixed.result.slots c.fix-fixed.new.heap fixed.visits fixed.most
    c.end_compaction.ensures.sound (fixed.done c.if-fixed.true))

pub returns-then-fixed-clause-work : goal.returns-then-fixed-clause-work
returns-then-fixed-clause-work g c =
    let fixing : c.self.inside.heap.phase ≡ Fixing = ap (λ (v : View). v.heap.phase) c.self.view_is ∙ c.requires.fixing in
    let last = ap (λ (v : View). v.heap) c.end_compaction.ensures.ended in
    rw (← c.self.view_is, last)
    (λ quiescent. fix_work_ended c.self.inside.heap _
    (fixes_work c.fix-fixed.result.slots c.self.inside.heap c.fix-fixed.new.heap c.fix-fixed.ensures.visits fixing quiescent))

pub returns-else-fixed-clause-answers : goal.returns-else-fixed-clause-answers
returns-else-fixed-clause-answers g c =
    let fixed = c.fix-fixed.ensures in
    let more = fixed.more c.if-fixed.false in
    let fixing : c.self.inside.heap.phase ≡ Fixing = ap (λ (v : View). v.heap.phase) c.self.view_is ∙ c.requires.fixing in
    rw (← c.self.view_is, c.if-fixed.false)
    (λ s h. fix_went_on (view_of c.self.inside) s h fixing c.args.count c.fix-fixed.result.slots c.fix-fixed.new.heap fixed.visits fixed.most
    more.0 more.1)

pub returns-else-fixed-clause-work : goal.returns-else-fixed-clause-work
returns-else-fixed-clause-work g c =
    rw (← c.self.view_is) (λ quiescent. fix_work c.fix-fixed.result.slots c.self.inside.heap c.fix-fixed.new.heap c.fix-fixed.ensures.visits)
