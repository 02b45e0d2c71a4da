use Rattle.std.proofs.Common.{◌-◌}
use Rattle.space_heap.specs.Marking.{visited}
use Rattle.space_tracing.specs.Scans.{visited_all}
use Rattle.space_tracing.proofs.FieldVisits.{AreVisited}
use Rattle.space_tracing.proofs.tracing.visit_fields.Given as goal

-- the fields so far were visited
abbrev pub invariant-fields : goal.invariant-fields
invariant-fields g l = AreVisited visited visited_all l.fn.heap l.heap l.address l.fields

abbrev pub decreases-fields : goal.decreases-fields
decreases-fields g l = l.fields.count - l.fields.done
