use Rattle.std.proofs.Common.{sym, subst}
use Rattle.space_compact.proofs.FieldPins.{ArePinned, none_pinned, still_occupied, count_stays, one_pinned}
use Rattle.space_compact.proofs.pinning.pin_children.Goals as goal

pub fields-init : goal.fields-init
fields-init g c = subst (ArePinned c.args.heap.now c.args.heap.now c.args.address) (sym c.read_fields-fields.ensures.begins)
    (none_pinned c.args.heap.now c.args.address)

pub next_field-requires-clause-object : goal.next_field-requires-clause-object
next_field-requires-clause-object g c = still_occupied c.args.heap.now c.fields.heap c.args.address c.fields.fields c.fields.invariant c.requires.object

pub next_field-requires-clause-fields : goal.next_field-requires-clause-fields
next_field-requires-clause-fields g c = count_stays c.args.heap.now c.fields.heap c.args.address c.fields.fields c.fields.invariant

pub fields-preserved : goal.fields-preserved
fields-preserved g c =
    subst (λ v. ArePinned c.args.heap.now v c.args.address c.next_field.new.reader) (sym c.pin_word.ensures)
    (one_pinned c.args.heap.now c.fields.heap c.args.address c.fields.fields c.fields.invariant
    c.next_field.new.reader c.in-Some.word c.resolve-word.result c.in-Some.ensures c.resolve-word.ensures)
