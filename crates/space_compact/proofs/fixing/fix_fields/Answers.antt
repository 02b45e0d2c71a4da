use Rattle.std.proofs.Common.{◌+◌, refl, sym, subst, arith}
use Rattle.space_heap.specs.Objects.{resolved}
use Rattle.space_compact.proofs.FieldFixes.{AreFixed, none_fixed, fixed_stands, fixed_within, reader_stands, reader_long, none_left, next_word, one_fixed}
use Rattle.space_compact.proofs.fixing.fix_fields.Goals as goal
use Rattle.space_compact.proofs.fixing.fix_fields.Goals.{in-Some, in_default}

pub fields-init : goal.fields-init
fields-init g c = subst (AreFixed c.args.heap.now c.args.address c.args.heap.now 0) (sym c.read_fields-fields.ensures.begins)
    (none_fixed c.args.heap.now c.args.address c.requires.object)

pub next_field-requires-clause-object : goal.next_field-requires-clause-object
next_field-requires-clause-object g c =
    reader_stands c.args.heap.now c.args.address c.requires.object c.fields.heap c.fields.i c.fields.fields c.fields.invariant

pub next_field-requires-clause-fields : goal.next_field-requires-clause-fields
next_field-requires-clause-fields g c = reader_long c.args.heap.now c.args.address c.requires.object c.fields.heap c.fields.i c.fields.fields c.fields.invariant

pub fix_field-requires-clause-object : goal.fix_field-requires-clause-object
fix_field-requires-clause-object g c =
    fixed_stands c.args.heap.now c.args.address c.requires.object c.fields.heap c.fields.i c.fields.fields c.fields.invariant

pub fix_field-requires-clause-field : goal.fix_field-requires-clause-field
fix_field-requires-clause-field g c =
    fixed_within c.args.heap.now c.args.address c.requires.object c.fields.heap c.fields.i c.fields.fields c.fields.invariant
    (let t = c.fields-test.true in let n = c.field_count-i-end.ensures.count in omega arith)

pub fix_field-requires-clause-word : goal.fix_field-requires-clause-word
fix_field-requires-clause-word g c =
    next_word c.args.heap.now c.args.address c.requires.object c.fields.heap c.fields.i c.fields.fields c.fields.invariant c.next_field.new.reader
    c.in-Some.word c.in-Some.ensures

pub fields-preserved : goal.fields-preserved
fields-preserved g c = elim c.match-next_field.branch [
  | in-Some w ↦ subst (λ v. AreFixed c.args.heap.now c.args.address v (c.fields.i + 1) c.next_field.new.reader) (sym w.heap-is)
      (one_fixed c.args.heap.now c.args.address c.requires.object c.fields.heap c.fields.i c.fields.fields c.fields.invariant c.next_field.new.reader
      w.in-Some.word (resolved c.fields.heap w.in-Some.word) w.fix_field.new.heap w.in-Some.ensures refl w.fix_field.ensures)
  | in_default w ↦ absurd (
      let past = none_left c.args.heap.now c.args.address c.requires.object c.fields.heap c.fields.i c.fields.fields c.fields.invariant c.next_field.new.reader
      w.in_default.ensures in
      let t = c.fields-test.true in
      let n = c.field_count-i-end.ensures.count in
      omega arith)
]
