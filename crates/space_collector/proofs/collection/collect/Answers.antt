use Rattle.std.proofs.Common.{sym, ◌∙◌, subst, arith}
use Rattle.space_heap.specs.SoundHeap.{IsSoundHeap}
use Rattle.space_collector.specs.Quiescent.{IsQuiescent}
use Rattle.space_collector.proofs.AllSweeps.{gone_most}
use Rattle.space_collector.proofs.GoneLists.{gone_count}
use Rattle.space_collector.proofs.HeapVerdictLaws.{none_gone_marked, quiescent-settled}
use Rattle.space_collector.proofs.QuiescentLaws.{none_gone_before, none_moved_before}
use Rattle.space_collector.proofs.collection.collect.Goals as goal

pub mark-scans-requires-clause-none_gone : goal.mark-scans-requires-clause-none_gone
mark-scans-requires-clause-none_gone g c = none_gone_before c.args.heap.now c.args.kind c.requires.able.quiescent c.requires.able.begins

pub verdict-gone-requires-clause-none_gone : goal.verdict-gone-requires-clause-none_gone
verdict-gone-requires-clause-none_gone g c =
    none_gone_marked c.args.heap.now c.mark-scans.new.heap c.mark-scans.ensures.marking.same
    (none_gone_before c.args.heap.now c.args.kind c.requires.able.quiescent c.requires.able.begins)

pub returns-clause-verdict : goal.returns-clause-verdict
returns-clause-verdict g c = record {
  marked = c.mark-scans.new.heap;
  marking = c.mark-scans.ensures.marking;
  settles = c.verdict-gone.ensures.settled;
  sound = c.verdict-gone.ensures.sound;
}

pub returns-clause-gone : goal.returns-clause-gone
returns-clause-gone g c = gone_count c.verdict-gone.new.heap c.verdict-gone.result c.verdict-gone.ensures.gone

pub returns-clause-quiescent : goal.returns-clause-quiescent
returns-clause-quiescent g c =
    let marking = c.mark-scans.ensures.marking in
    let still = none_moved_before c.args.heap.now c.args.kind c.requires.able.quiescent c.requires.able.begins in
    subst IsQuiescent (sym c.verdict-gone.ensures.settled)
    (quiescent-settled c.mark-scans.new.heap c.args.kind
    (subst IsSoundHeap c.verdict-gone.ensures.settled c.verdict-gone.ensures.sound)
    (λ a. marking.same.away a ∙ still a)
    marking.none_grey)

pub returns-clause-most : goal.returns-clause-most
returns-clause-most g c =
    let counted = gone_count c.verdict-gone.new.heap c.verdict-gone.result c.verdict-gone.ensures.gone in
    let most = gone_most c.verdict-gone.new.heap c.verdict-gone.ensures.sound (returns-clause-quiescent g c) in
    omega arith
