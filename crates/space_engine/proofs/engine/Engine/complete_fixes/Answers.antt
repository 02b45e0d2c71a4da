-- Visits of all objects that are left, and then the compaction ends.
use Rattle.std.proofs.Common.{ap, sym, subst, ◌≡◌, ◌∙◌, arith}
use Rattle.space_model.specs.declared.phase.Phase.TheVariants.{Fixing}
use Rattle.space_heap.specs.HeapView.{Counters, HeapView}
use Rattle.space_collector.specs.Quiescent.{IsQuiescent}
use Rattle.space_engine.specs.Views.{View}
use Rattle.space_engine.proofs.CompactionWork.{visits_keep, fixes_work, ends_judged}
use Rattle.space_engine.proofs.engine.Engine.complete_fixes.Goals as goal

pub end_compaction-requires : goal.end_compaction-requires
end_compaction-requires g c =
    let kept = visits_keep c.fix_all.result c.self.inside.heap c.fix_all.new.heap c.fix_all.ensures.visits in
    let same = ap (λ (k : Counters). k.compactions) kept.counters in
    let before = ap (λ (v : View). v.heap.counters.compactions) c.self.view_is in
    let few = c.requires.few in
    record { few = omega (arith, same, before, few) }

pub returns-clause-judged : goal.returns-clause-judged
returns-clause-judged g c =
    let v = c.self.inside.heap in
    let w = c.fix_all.new.heap in
    let same = ap (λ (v : View). v.heap) c.self.view_is in
    let fixing : v.phase ≡ Fixing = ap (λ (v : HeapView). v.phase) same ∙ c.requires.fixing in
    let quiescent = subst IsQuiescent (sym same) c.requires.quiescent in
    let last = ap (λ (v : View). v.heap) c.end_compaction.ensures.ended in
    rw (← c.self.view_is, last) (ends_judged v _ (fixes_work c.fix_all.result v w c.fix_all.ensures.visits fixing quiescent))
