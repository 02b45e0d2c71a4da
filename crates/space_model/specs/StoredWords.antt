-- The words of an object's fields as they are stored. While a compaction moves objects, a field may hold an address that its object left:
-- it is stale until it is written again, or until the compaction visits its owner. This is this project's own.
use Rattle.std.specs.Prelude.{ℕ, ◌+◌, Bool, not, ◌&&◌, List, [], ◌∷◌, nat_eq, if◌then◌else◌}
use Rattle.std.specs.List.{filter, list_any}
use Rattle.std.specs.Ordering.{nat_cmp}
use Rattle.std.specs.FinMap.{FinMap}
use Rattle.space_model.specs.declared.value.Value.{Value}
use Rattle.space_model.specs.Graph.{item_of}
use Rattle.space_model.specs.Operands.{value_word}
use Rattle.space_model.specs.State.{State}

-- whether this field of the name is stale: the pair is in the list
abbrev pub is_stale : List (ℕ × ℕ) → ℕ → ℕ → Bool
is_stale stale name index = list_any (λ (pair : ℕ × ℕ). nat_eq pair.0 name && nat_eq pair.1 index) stale

-- the pairs without this field of the name
abbrev pub without_pair : List (ℕ × ℕ) → ℕ → ℕ → List (ℕ × ℕ)
without_pair stale name index = filter (λ (pair : ℕ × ℕ). not (nat_eq pair.0 name && nat_eq pair.1 index)) stale

-- the word of a field with this value: the word of the value, in which the address of an object is its place, or that which it left
-- where the field is stale
abbrev pub stored_word : FinMap nat_cmp ℕ → FinMap nat_cmp ℕ → List (ℕ × ℕ) → ℕ → ℕ → Value → ℕ
stored_word place left stale name index value = if is_stale stale name index then value_word left value else value_word place value

-- f of each value and its number, where the first has this number
abbrev pub map_from : (ℕ → Value → ℕ) → ℕ → List Value → List ℕ
map_from f index [] = []
map_from f index (value ∷ values) = f index value ∷ map_from f (index + 1) values

-- the stored words of the fields of a name, which have these values
abbrev pub stored_words : FinMap nat_cmp ℕ → FinMap nat_cmp ℕ → List (ℕ × ℕ) → ℕ → List Value → List ℕ
stored_words place left stale name values = map_from (stored_word place left stale name) 0 values

-- the stored words of the fields of a name, in a state
abbrev pub stored : State → ℕ → List ℕ
stored s name = stored_words s.heap.place s.heap.left s.collector.stale name (item_of s.graph name).values
