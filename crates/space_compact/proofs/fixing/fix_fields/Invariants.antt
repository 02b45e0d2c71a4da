use Rattle.space_compact.proofs.FieldFixes.{AreFixed}
use Rattle.space_compact.proofs.fixing.fix_fields.Given as goal

-- the fields so far are resolved
abbrev pub invariant-fields : goal.invariant-fields
invariant-fields g l = AreFixed l.fn.heap l.address l.heap l.i l.fields
