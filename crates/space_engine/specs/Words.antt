-- The words that a space has for values, and what its heap answers for words.
use Rattle.std.specs.Prelude.{ℕ, List, map, reverse, length, nat_lt, if◌then◌else◌, Result, Ok, Err, slice_get, slice_index_or}
use Rattle.std.specs.Option.{ok_or, option_map}
use Rattle.std.specs.Ordering.{nat_cmp}
use Rattle.std.specs.FinMap.{FinMap}
use Rattle.space_model.specs.declared.command.Operand.{Operand}
use Rattle.space_model.specs.declared.command.Operand.TheVariants.{Root as RootOperand, Word}
use Rattle.space_model.specs.declared.reply.Refusal.{Refusal}
use Rattle.space_model.specs.declared.reply.Refusal.TheVariants.{NoRoot, NoWord, NotObject, NoField}
use Rattle.space_model.specs.declared.value.Value.{Value}
use Rattle.space_model.specs.declared.value.Value.TheVariants.{Name}
use Rattle.space_model.specs.Operands.{value_word}
use Rattle.space_model.specs.Refusals.{and_then}
use Rattle.space_model.specs.Roots.{Root}
use Rattle.space_heap.specs.HeapView.{HeapView}
use Rattle.space_heap.specs.Objects.{is_object, object_of, resolved}
use Rattle.space_roots.specs.WordRoots.{root_word}
pub use Rattle.space_compact.specs.Visits.{resolved_roots}
use Rattle.space_engine.specs.Views.{View}

-- the roots, each with the word of its value
abbrev pub word_roots : FinMap nat_cmp ℕ → List Root → List (List ℕ × ℕ)
word_roots place roots = map (λ (root : Root). (root.0, value_word place root.1)) roots

-- the word of an operand: that of the root, resolved, or the word of the stack at that place from the top
abbrev pub operand_word : View → Operand → Result ℕ Refusal
operand_word v (RootOperand name) = ok_or (option_map (resolved v.heap) (root_word v.roots name)) NoRoot
operand_word v (Word k) = ok_or (slice_get (reverse v.stack) k) NoWord

-- the word of a value, or the same refusal
abbrev pub word_result : FinMap nat_cmp ℕ → Result Value Refusal → Result ℕ Refusal
word_result place (Ok value) = Ok (value_word place value)
word_result place (Err why) = Err why

-- the address of a name and the word of a value, or the same refusal
abbrev pub written_words : FinMap nat_cmp ℕ → Result (ℕ × Value) Refusal → Result (ℕ × ℕ) Refusal
written_words place (Ok written) = Ok (value_word place (Name written.0), value_word place written.1)
written_words place (Err why) = Err why

-- the address of a name, or the same refusal
abbrev pub named_address : FinMap nat_cmp ℕ → Result ℕ Refusal → Result ℕ Refusal
named_address place (Ok name) = Ok (value_word place (Name name))
named_address place (Err why) = Err why

-- the address of the object that the word names, where it has this field
abbrev pub owner_of_field : HeapView → ℕ → ℕ → Result ℕ Refusal
owner_of_field heap word index =
    if is_object heap word
    then (if nat_lt index (length (object_of heap word).fields) then Ok word else Err NoField)
    else Err NotObject

-- the word of a field of the object that the word names, resolved
abbrev pub field_word : HeapView → ℕ → ℕ → Result ℕ Refusal
field_word heap word index =
    and_then (owner_of_field heap word index) (λ address. Ok (resolved heap (slice_index_or (object_of heap address).fields index 0)))
