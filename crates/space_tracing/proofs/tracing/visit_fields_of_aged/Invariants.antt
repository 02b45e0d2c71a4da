use Rattle.std.proofs.Common.{◌≡◌, ◌-◌, take}
use Rattle.space_heap.specs.Generations.{visited_by_aged}
use Rattle.space_tracing.specs.Scans.{fields_of, is_any_young, visited_all_by_aged}
use Rattle.space_tracing.proofs.FieldVisits.{AreVisited}
use Rattle.space_tracing.proofs.tracing.visit_fields_of_aged.Given as goal

-- the fields so far were visited, and it is known whether one of them names a protected object of age 0 or 1
abbrev pub invariant-fields : goal.invariant-fields
invariant-fields g l = record {
  visits : AreVisited visited_by_aged visited_all_by_aged l.fn.heap l.heap l.address l.fields;
  young : l.young ≡ is_any_young l.fn.heap (take l.fields.done (fields_of l.fn.heap l.address));
}

abbrev pub decreases-fields : goal.decreases-fields
decreases-fields g l = l.fields.count - l.fields.done
