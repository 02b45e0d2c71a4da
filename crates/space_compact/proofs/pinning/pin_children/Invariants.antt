use Rattle.std.proofs.Common.{◌-◌}
use Rattle.space_compact.proofs.FieldPins.{ArePinned}
use Rattle.space_compact.proofs.pinning.pin_children.Given as goal

-- what the fields so far name was pinned
abbrev pub invariant-fields : goal.invariant-fields
invariant-fields g l = ArePinned l.fn.heap l.heap l.address l.fields

abbrev pub decreases-fields : goal.decreases-fields
decreases-fields g l = l.fields.count - l.fields.done
