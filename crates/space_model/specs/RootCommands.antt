-- The commands that write roots: `set`, `drop` and `load`. They choose nothing, but that there may be no memory for a new root.
use Rattle.std.specs.Prelude.{◌≡◌, ◌⊎◌, ℕ, List, Option, None, Some, Result, Ok, Err}
use Rattle.space_model.specs.declared.command.Input.{Input}
use Rattle.space_model.specs.declared.command.Operand.{Operand}
use Rattle.space_model.specs.declared.reply.Refusal.{Refusal}
use Rattle.space_model.specs.declared.reply.Refusal.TheVariants.{NoRoot}
use Rattle.space_model.specs.declared.reply.Reply.{Reply}
use Rattle.space_model.specs.declared.reply.Reply.TheVariants.{NoMemory, Done, Read}
use Rattle.space_model.specs.declared.value.Value.{Value}
use Rattle.space_model.specs.Graph.{Item, item_of}
use Rattle.space_model.specs.Operands.{operand_value, input_value, object_in, field_in}
use Rattle.space_model.specs.Pieces.{RootWritten, RootDropped}
use Rattle.space_model.specs.Refusals.{and_then, Refuses}
use Rattle.space_model.specs.Roots.{root_value}
use Rattle.space_model.specs.State.{State}

-- the root was written and this is the answer; or it is a new one, there was no memory for it, and nothing was changed
abbrev pub WritesRoot : State → List ℕ → Value → Reply → Reply → State → Type 0
WritesRoot s root value answer reply t =
    ((reply ≡ answer) × RootWritten s root value t) ⊎ ((reply ≡ NoMemory) × (root_value s.roots root ≡ None) × (t ≡ s))

-- what `set` answers to a value, or to the refusal that was found instead
abbrev pub SetReply : State → List ℕ → Result Value Refusal → Reply → State → Type 0
SetReply s root (Ok value) reply t = WritesRoot s root value Done reply t
SetReply s root (Err why) reply t = Refuses s why reply t

-- `set`: the root holds the value
abbrev pub Sets : State → List ℕ → Input → Reply → State → Type 0
Sets s root value reply t = SetReply s root (input_value s value) reply t

-- what `drop` answers to what the root holds, if there is one
abbrev pub DropReply : State → List ℕ → Option Value → Reply → State → Type 0
DropReply s root None reply t = Refuses s NoRoot reply t
DropReply s root (Some value) reply t = (reply ≡ Done) × RootDropped s root t

-- `drop`: the root is taken away, where there is one
abbrev pub DropsRoot : State → List ℕ → Reply → State → Type 0
DropsRoot s root reply t = DropReply s root (root_value s.roots root) reply t

-- the value of a field of the object that a value is
abbrev pub field_value : List Item → Result Value Refusal → ℕ → Result Value Refusal
field_value graph object index =
    and_then object (λ value. and_then (object_in value) (λ name. field_in (item_of graph name) index))

-- what `load` answers to the value of the field, or to the refusal that was found instead
abbrev pub LoadReply : State → List ℕ → Result Value Refusal → Reply → State → Type 0
LoadReply s root (Ok value) reply t = WritesRoot s root value (Read value) reply t
LoadReply s root (Err why) reply t = Refuses s why reply t

-- `load`: the root holds the value of the field, which was read before the root is written
abbrev pub Loads : State → List ℕ → Operand → ℕ → Reply → State → Type 0
Loads s root object index reply t = LoadReply s root (field_value s.graph (operand_value s object) index) reply t
