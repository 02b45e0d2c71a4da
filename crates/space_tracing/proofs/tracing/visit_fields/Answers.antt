use Rattle.std.proofs.Common.{sym, subst}
use Rattle.space_heap.specs.Marking.{visited}
use Rattle.space_tracing.specs.Scans.{visited_all}
use Rattle.space_tracing.proofs.Visits.{visits_all, visited_all-more, visited_all-none}
use Rattle.space_tracing.proofs.FieldVisits.{AreVisited, still_occupied, count_stays, one_more, none_yet}
use Rattle.space_tracing.proofs.tracing.visit_fields.Goals as goal

pub fields-init : goal.fields-init
fields-init g c = subst (AreVisited visited visited_all c.args.heap.now c.args.heap.now c.args.address) (sym c.read_fields-fields.ensures.begins)
    (none_yet visited visited_all c.args.heap.now c.args.address (visited_all-none c.args.heap.now))

pub next_field-requires-clause-object : goal.next_field-requires-clause-object
next_field-requires-clause-object g c =
    still_occupied visited visited_all (λ v words. (visits_all v words).same) c.args.heap.now c.fields.heap c.args.address c.fields.fields c.fields.invariant
    c.requires.object

pub next_field-requires-clause-fields : goal.next_field-requires-clause-fields
next_field-requires-clause-fields g c =
    count_stays visited visited_all (λ v words. (visits_all v words).same) c.args.heap.now c.fields.heap c.args.address c.fields.fields c.fields.invariant

pub fields-preserved : goal.fields-preserved
fields-preserved g c =
    subst (λ v. AreVisited visited visited_all c.args.heap.now v c.args.address c.next_field.new.reader) (sym c.grey_if_white.ensures)
    (one_more visited visited_all (λ v words. (visits_all v words).same) c.args.heap.now c.fields.heap c.args.address c.fields.fields c.fields.invariant
    (visited_all-more c.args.heap.now) c.next_field.new.reader c.in-Some.word c.in-Some.ensures)
