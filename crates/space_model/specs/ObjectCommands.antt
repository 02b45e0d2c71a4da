-- The commands on objects that write no root: `store`, `rawstore`, `same` and `unprotect`. They choose nothing.
use Rattle.std.specs.Prelude.{◌≡◌, ℕ, ◌==◌, Bool, true, false, List, Result, Ok, Err, if◌then◌else◌}
use Rattle.space_model.specs.declared.command.Input.{Input}
use Rattle.space_model.specs.declared.command.Operand.{Operand}
use Rattle.space_model.specs.declared.reply.Refusal.{Refusal}
use Rattle.space_model.specs.declared.reply.Refusal.TheVariants.{Protected}
use Rattle.space_model.specs.declared.reply.Reply.{Reply}
use Rattle.space_model.specs.declared.reply.Reply.TheVariants.{Done, Truth, Refused}
use Rattle.space_model.specs.declared.value.Value.{Value}
use Rattle.space_model.specs.declared.value.Value.TheVariants.{Nil, Small, Name}
use Rattle.space_model.specs.Ages.{is_protected}
use Rattle.space_model.specs.Graph.{Item, item_of}
use Rattle.space_model.specs.Operands.{operand_value, input_value, object_in, field_in}
use Rattle.space_model.specs.Pieces.{FieldWritten, MadeUnprotected}
use Rattle.space_model.specs.Refusals.{both, and_then, Refuses}
use Rattle.space_model.specs.State.{State}

-- the name whose field is written, and the value that it gets
abbrev pub written_field : List Item → Result Value Refusal → ℕ → Result Value Refusal → Result (ℕ × Value) Refusal
written_field graph object index value =
    and_then (both object value) (λ values.
    and_then (object_in values.0) (λ name.
    and_then (field_in (item_of graph name) index) (λ old. Ok (name, values.1))))

-- what `store` answers to the name and the value that its field gets, or to the refusal that was found instead
abbrev pub StoreReply : State → ℕ → Result (ℕ × Value) Refusal → Reply → State → Type 0
StoreReply s index (Ok written) reply t = (reply ≡ Done) × FieldWritten s written.0 index written.1 t
StoreReply s index (Err why) reply t = Refuses s why reply t

-- `store`: the field holds the value
abbrev pub Stores : State → Operand → ℕ → Input → Reply → State → Type 0
Stores s object index value reply t =
    StoreReply s index (written_field s.graph (operand_value s object) index (input_value s value)) reply t

-- the name and the value, where the write barrier doesn't protect the name
abbrev pub unguarded : List Item → ℕ × Value → Result (ℕ × Value) Refusal
unguarded graph written = if is_protected graph written.0 then Err Protected else Ok written

-- the name whose field is written without the write barrier, and the value that it gets
abbrev pub raw_written_field : List Item → Result Value Refusal → ℕ → Result Value Refusal → Result (ℕ × Value) Refusal
raw_written_field graph object index value = and_then (written_field graph object index value) (unguarded graph)

-- `rawstore`: the field of an object that the write barrier doesn't protect holds the value
abbrev pub RawStores : State → Operand → ℕ → Input → Reply → State → Type 0
RawStores s object index value reply t =
    StoreReply s index (raw_written_field s.graph (operand_value s object) index (input_value s value)) reply t

-- what `unprotect` answers to the name, or to the refusal that was found instead
abbrev pub UnprotectReply : State → Result ℕ Refusal → Reply → State → Type 0
UnprotectReply s (Ok name) reply t = (reply ≡ Done) × MadeUnprotected s name t
UnprotectReply s (Err why) reply t = Refuses s why reply t

-- `unprotect`: the write barrier protects the object no more
abbrev pub Unprotects : State → Operand → Reply → State → Type 0
Unprotects s object reply t = UnprotectReply s (and_then (operand_value s object) object_in) reply t

-- whether two values are one
abbrev pub is_same_value : Value → Value → Bool
is_same_value Nil Nil = true
is_same_value (Small a) (Small b) = a == b
is_same_value (Name a) (Name b) = a == b
is_same_value _ _ = false

-- what `same` answers to two values, or to the refusal that was found instead
abbrev pub same_reply : Result (Value × Value) Refusal → Reply
same_reply (Ok values) = Truth (is_same_value values.0 values.1)
same_reply (Err why) = Refused why

-- `same`: whether the two values are one
abbrev pub Compares : State → Operand → Operand → Reply → State → Type 0
Compares s left right reply t = (reply ≡ same_reply (both (operand_value s left) (operand_value s right))) × (t ≡ s)
