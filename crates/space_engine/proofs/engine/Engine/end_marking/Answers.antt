-- The end of a marking is one verdict, and its lines.
use Rattle.std.proofs.Common.{ap}
use Rattle.space_engine.specs.Views.{View}
use Rattle.space_engine.proofs.CollectionCounts.{major_judged}
use Rattle.space_engine.proofs.Completing.{telling_told}
use Rattle.space_engine.proofs.engine.Engine.end_marking.Goals as goal

pub returns-in_err-tell_gone-clause-judged : goal.returns-in_err-tell_gone-clause-judged
returns-in_err-tell_gone-clause-judged g c =
    let purged = ap (λ (v : View). v.heap) c.purge.ensures in
    rw (← c.self.view_is, purged)
    (major_judged c.self.inside.heap c.collect-ended.new.heap _ _ _ c.collect-ended.ensures.verdict c.collect-ended.ensures.quiescent)

pub returns-clause-done : goal.returns-clause-done
returns-clause-done g c =
    let purged = ap (λ (v : View). v.heap) c.purge.ensures in
    let told = ap (λ (v : View). v.heap) c.self-2.view_is in
    rw (← c.self.view_is, purged)
    (telling_told c.self.inside.heap c.collect-ended.new.heap _ _ _ _ _ _ _ c.collect-ended.ensures.verdict c.collect-ended.ensures.few
    c.collect-ended.ensures.gone (rw (told, purged) at c.in_ok-tell_gone.ensures.done))

pub returns-clause-judged : goal.returns-clause-judged
returns-clause-judged g c =
    let purged = ap (λ (v : View). v.heap) c.purge.ensures in
    rw (← c.self.view_is, purged)
    (major_judged c.self.inside.heap c.collect-ended.new.heap _ _ _ c.collect-ended.ensures.verdict c.collect-ended.ensures.quiescent)
