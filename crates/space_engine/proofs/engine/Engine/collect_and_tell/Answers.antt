-- A collection is a completion, and then one verdict, with the lines of both.
use Rattle.std.proofs.Common.{◌∙◌, ap, ◌+◌}
use Rattle.space_collector.proofs.HeapVerdictLaws.{phase-verdict}
use Rattle.space_collector.proofs.QuiescentLaws.{none_gone}
use Rattle.space_engine.specs.Views.{View}
use Rattle.space_engine.proofs.CollectionCounts.{collection_judged}
use Rattle.space_engine.proofs.Completing.{judged_now, verdict_now, ticked_completes, collected_done, completion_cut, verdict_cut}
use Rattle.space_engine.proofs.Outcomes.{on_err}
use Rattle.space_engine.proofs.Purges.{completed_as, collected_rest}
use Rattle.space_engine.proofs.engine.Engine.collect_and_tell.Goals as goal

pub returns-in_err-ended-clause-fault : goal.returns-in_err-ended-clause-fault
returns-in_err-ended-clause-fault g c =
    let old = c.args.self.now in
    let mid = c.complete-ended in
    let done = c.collect-collected in
    let last = c.purge.new.self in
    let verdict = verdict_now _ mid.new.self last done.new.heap c.args.kind done.result.scans c.self.view_is c.purge.ensures done.ensures.verdict in
    let judged = judged_now _ mid.new.self last done.new.heap c.self.view_is c.purge.ensures in
    on_err c.from_residual.result _
    (completion_cut old mid.new.self last c.args.kind done.result.scans verdict done.ensures.few judged _ _ c.in_err-ended.ensures.fault)

pub returns-in_err-ended-clause-judged : goal.returns-in_err-ended-clause-judged
returns-in_err-ended-clause-judged g c =
    let old = c.args.self.now in
    let mid = c.complete-ended in
    let done = c.collect-collected in
    let last = c.purge.new.self in
    let verdict = verdict_now _ mid.new.self last done.new.heap c.args.kind done.result.scans c.self.view_is c.purge.ensures done.ensures.verdict in
    let judged = judged_now _ mid.new.self last done.new.heap c.self.view_is c.purge.ensures in
    let purged = ap (λ (v : View). v.heap) c.purge.ensures in
    collection_judged mid.new.self.heap last.heap c.args.kind _ _ _ verdict (rw purged done.ensures.quiescent) old.heap mid.ensures.judged

pub returns-in_err-ended-clause-settled : goal.returns-in_err-ended-clause-settled
returns-in_err-ended-clause-settled g c =
    let mid = c.complete-ended in
    let done = c.collect-collected in
    let last = c.purge.new.self in
    let verdict = verdict_now _ mid.new.self last done.new.heap c.args.kind done.result.scans c.self.view_is c.purge.ensures done.ensures.verdict in
    phase-verdict mid.new.self.heap last.heap c.args.kind _ _ _ verdict

pub returns-in_err-ended-clause-rest : goal.returns-in_err-ended-clause-rest
returns-in_err-ended-clause-rest g c = λ rests.
    let old = c.args.self.now in
    let mid = c.complete-ended in
    let done = c.collect-collected in
    let last = c.purge.new.self in
    let verdict = verdict_now _ mid.new.self last done.new.heap c.args.kind done.result.scans c.self.view_is c.purge.ensures done.ensures.verdict in
    let judged = judged_now _ mid.new.self last done.new.heap c.self.view_is c.purge.ensures in
    let rest = completed_as old mid.new.self (mid.ensures.rest rests) in
    let clean = none_gone mid.new.self.heap mid.ensures.judged.quiescent (λ e. let idle = mid.ensures.idle in cc) in
    collected_rest old mid.new.self last last.heap c.args.kind _ _ _ rest clean verdict judged

pub returns-in_err-tell_gone-clause-fault : goal.returns-in_err-tell_gone-clause-fault
returns-in_err-tell_gone-clause-fault g c =
    let old = c.args.self.now in
    let mid = c.complete-ended in
    let done = c.collect-collected in
    let last = c.purge.new.self in
    let verdict = verdict_now _ mid.new.self last done.new.heap c.args.kind done.result.scans c.self.view_is c.purge.ensures done.ensures.verdict in
    let judged = judged_now _ mid.new.self last done.new.heap c.self.view_is c.purge.ensures in
    let told = ap (λ (v : View). v.heap) c.self-2.view_is in
    on_err c.from_residual-in_err-tell_gone.result _
    (verdict_cut old mid.new.self last c.args.kind done.result.scans verdict done.ensures.few judged _ _ _
    c.in_ok-ended.ensures.done.are.scans c.in_ok-ended.ended.gone c.in_ok-ended.ended.moves (ticked_completes _ _ _ _ _ _ _ _ c.in_ok-ended.ensures.done)
    (rw told at c.in_err-tell_gone.ensures.fault))

pub returns-in_err-tell_gone-clause-judged : goal.returns-in_err-tell_gone-clause-judged
returns-in_err-tell_gone-clause-judged g c =
    let old = c.args.self.now in
    let mid = c.complete-ended in
    let done = c.collect-collected in
    let last = c.purge.new.self in
    let verdict = verdict_now _ mid.new.self last done.new.heap c.args.kind done.result.scans c.self.view_is c.purge.ensures done.ensures.verdict in
    let judged = judged_now _ mid.new.self last done.new.heap c.self.view_is c.purge.ensures in
    let purged = ap (λ (v : View). v.heap) c.purge.ensures in
    collection_judged mid.new.self.heap last.heap c.args.kind _ _ _ verdict (rw purged done.ensures.quiescent) old.heap mid.ensures.judged

pub returns-in_err-tell_gone-clause-settled : goal.returns-in_err-tell_gone-clause-settled
returns-in_err-tell_gone-clause-settled g c =
    let mid = c.complete-ended in
    let done = c.collect-collected in
    let last = c.purge.new.self in
    let verdict = verdict_now _ mid.new.self last done.new.heap c.args.kind done.result.scans c.self.view_is c.purge.ensures done.ensures.verdict in
    phase-verdict mid.new.self.heap last.heap c.args.kind _ _ _ verdict

pub returns-in_err-tell_gone-clause-rest : goal.returns-in_err-tell_gone-clause-rest
returns-in_err-tell_gone-clause-rest g c = λ rests.
    let old = c.args.self.now in
    let mid = c.complete-ended in
    let done = c.collect-collected in
    let last = c.purge.new.self in
    let verdict = verdict_now _ mid.new.self last done.new.heap c.args.kind done.result.scans c.self.view_is c.purge.ensures done.ensures.verdict in
    let judged = judged_now _ mid.new.self last done.new.heap c.self.view_is c.purge.ensures in
    let rest = completed_as old mid.new.self (mid.ensures.rest rests) in
    let clean = none_gone mid.new.self.heap mid.ensures.judged.quiescent (λ e. let idle = mid.ensures.idle in cc) in
    collected_rest old mid.new.self last last.heap c.args.kind _ _ _ rest clean verdict judged

pub returns-clause-done : goal.returns-clause-done
returns-clause-done g c =
    let old = c.args.self.now in
    let mid = c.complete-ended in
    let done = c.collect-collected in
    let last = c.purge.new.self in
    let verdict = verdict_now _ mid.new.self last done.new.heap c.args.kind done.result.scans c.self.view_is c.purge.ensures done.ensures.verdict in
    let judged = judged_now _ mid.new.self last done.new.heap c.self.view_is c.purge.ensures in
    let purged = ap (λ (v : View). v.heap) c.purge.ensures in
    let told = ap (λ (v : View). v.heap) c.self-2.view_is in
    collected_done old mid.new.self last c.args.kind done.result.scans verdict done.ensures.few judged _ _ _
    c.in_ok-ended.ensures.done.are.scans c.in_ok-ended.ended.gone c.in_ok-ended.ended.moves done.result.gone _ _
    (ticked_completes _ _ _ _ _ _ _ _ c.in_ok-ended.ensures.done) (rw purged done.ensures.gone)
    (rw told at c.in_ok-tell_gone.ensures.done) (done.ensures.ticked ∙ ap (λ n. n + done.result.scans) c.in_ok-ended.ensures.done.are.rose)

pub returns-clause-judged : goal.returns-clause-judged
returns-clause-judged g c =
    let old = c.args.self.now in
    let mid = c.complete-ended in
    let done = c.collect-collected in
    let last = c.purge.new.self in
    let verdict = verdict_now _ mid.new.self last done.new.heap c.args.kind done.result.scans c.self.view_is c.purge.ensures done.ensures.verdict in
    let judged = judged_now _ mid.new.self last done.new.heap c.self.view_is c.purge.ensures in
    let purged = ap (λ (v : View). v.heap) c.purge.ensures in
    collection_judged mid.new.self.heap last.heap c.args.kind _ _ _ verdict (rw purged done.ensures.quiescent) old.heap mid.ensures.judged

pub returns-clause-settled : goal.returns-clause-settled
returns-clause-settled g c =
    let mid = c.complete-ended in
    let done = c.collect-collected in
    let last = c.purge.new.self in
    let verdict = verdict_now _ mid.new.self last done.new.heap c.args.kind done.result.scans c.self.view_is c.purge.ensures done.ensures.verdict in
    phase-verdict mid.new.self.heap last.heap c.args.kind _ _ _ verdict

pub returns-clause-rest : goal.returns-clause-rest
returns-clause-rest g c = λ rests.
    let old = c.args.self.now in
    let mid = c.complete-ended in
    let done = c.collect-collected in
    let last = c.purge.new.self in
    let verdict = verdict_now _ mid.new.self last done.new.heap c.args.kind done.result.scans c.self.view_is c.purge.ensures done.ensures.verdict in
    let judged = judged_now _ mid.new.self last done.new.heap c.self.view_is c.purge.ensures in
    let rest = completed_as old mid.new.self (mid.ensures.rest rests) in
    let clean = none_gone mid.new.self.heap mid.ensures.judged.quiescent (λ e. let idle = mid.ensures.idle in cc) in
    collected_rest old mid.new.self last last.heap c.args.kind _ _ _ rest clean verdict judged
