-- What operands stand for, and the words of values.
use Rattle.std.specs.Prelude.{ℕ, ◌/◌, ◌%◌, ◌^◌, ◌==◌, ◌&&◌, nat_lt, if◌then◌else◌, reverse, List, Option, None, Some, Result, Ok, Err, slice_get}
use Rattle.std.specs.Option.{ok_or, option_map, unwrap_or}
use Rattle.std.specs.Ordering.{nat_cmp}
use Rattle.std.specs.FinMap.{FinMap, get}
use Rattle.space_model.specs.declared.command.Input.{Input}
use Rattle.space_model.specs.declared.command.Input.TheVariants.{From, Nil as NilInput, Small as SmallInput}
use Rattle.space_model.specs.declared.command.Operand.{Operand}
use Rattle.space_model.specs.declared.command.Operand.TheVariants.{Root as RootOperand, Word}
use Rattle.space_model.specs.declared.reply.Refusal.{Refusal}
use Rattle.space_model.specs.declared.reply.Refusal.TheVariants.{NoRoot, NoWord, NotObject, NoField}
use Rattle.space_model.specs.declared.value.Value.{Value}
use Rattle.space_model.specs.declared.value.Value.TheVariants.{Nil, Small, Name}
use Rattle.space_model.specs.Graph.{Item}
use Rattle.space_model.specs.Maps.{names_at}
use Rattle.space_model.specs.Refusals.{and_then}
use Rattle.space_model.specs.Roots.{Root, root_value}
use Rattle.space_model.specs.State.{State}
use Rattle.space_model.specs.Words.{small_number_word}

-- the name that the word names: the one that stands at this address
abbrev pub named_by : FinMap nat_cmp ℕ → ℕ → Option ℕ
named_by place word = slice_get (names_at place word) 0

-- the word of a value: 0 for nil, 2i + 1 for a small integer i, its place for a name, which is present where a root or a
-- field of a present object holds it; 0 where it isn't
abbrev pub value_word : FinMap nat_cmp ℕ → Value → ℕ
value_word place Nil = 0
value_word place (Small number) = small_number_word number
value_word place (Name name) = unwrap_or (get place name) 0

-- the value of a word of the stack: nil for 0, a small integer for an odd word below 2 ^ 63, the name that it names, else none
abbrev pub word_value : FinMap nat_cmp ℕ → ℕ → Option Value
word_value place word =
    if word == 0 then Some Nil
    else if nat_lt word (2 ^ 63) && (word % 2 == 1) then Some (Small (word / 2))
    else option_map Name (named_by place word)

-- the value of a word of the stack; that there is no such word, or that it has no value, is a refusal
abbrev pub word_value_in : FinMap nat_cmp ℕ → Option ℕ → Result Value Refusal
word_value_in place None = Err NoWord
word_value_in place (Some word) = ok_or (word_value place word) NotObject

-- the value of an operand: what the root holds, or the value of the stack word at that place from the top
abbrev pub operand_value_in : List Root → List ℕ → FinMap nat_cmp ℕ → Operand → Result Value Refusal
operand_value_in roots stack place (RootOperand name) = ok_or (root_value roots name) NoRoot
operand_value_in roots stack place (Word k) = word_value_in place (slice_get (reverse stack) k)

-- the value of an operand, in a state
abbrev pub operand_value : State → Operand → Result Value Refusal
operand_value s operand = operand_value_in s.roots s.stack s.heap.place operand

-- the value that a command is given
abbrev pub input_value_in : List Root → List ℕ → FinMap nat_cmp ℕ → Input → Result Value Refusal
input_value_in roots stack place (From operand) = operand_value_in roots stack place operand
input_value_in roots stack place NilInput = Ok Nil
input_value_in roots stack place (SmallInput number) = Ok (Small number)

-- the value that a command is given, in a state
abbrev pub input_value : State → Input → Result Value Refusal
input_value s input = input_value_in s.roots s.stack s.heap.place input

-- the name that a value is, where an object is needed
abbrev pub object_in : Value → Result ℕ Refusal
object_in Nil = Err NotObject
object_in (Small number) = Err NotObject
object_in (Name name) = Ok name

-- the name of an operand, where an object is needed
abbrev pub object_of : State → Operand → Result ℕ Refusal
object_of s operand = and_then (operand_value s operand) object_in

-- the value of a field of an item
abbrev pub field_in : Item → ℕ → Result Value Refusal
field_in item index = ok_or (slice_get item.values index) NoField
