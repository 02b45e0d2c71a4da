use Rattle.std.proofs.Common.{drop}
use Rattle.serde.specs.Event.{Log}
use Rattle.space_dump.specs.HeapLines.{references_in}
use Rattle.space_dump.specs.LineEvents.{SendsAll, reference_events}
use Rattle.space_dump.proofs.line.Line.send_references.Given as goal

-- whatever sends the references that are left from here sends all of them from the start
abbrev pub invariant-loop-word : goal.invariant-loop-word
invariant-loop-word g l =
    (end : Log) → SendsAll (reference_events (references_in l.self.heap.now (drop l.word-index l.word-items))) (g.S.Serializer.written l.out) end
    → SendsAll (reference_events (references_in l.self.heap.now l.word-items)) (g.S.Serializer.written l.fn.out) end
