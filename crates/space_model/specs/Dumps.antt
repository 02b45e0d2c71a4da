-- The commands that show objects: `dump` and `peek`. That a dump lists in ascending address is this project's own.
use Rattle.std.specs.Prelude.{◌≡◌, ◌≢◌, ◌⊎◌, ◌↔◌, ℕ, true, List, [], ◌∷◌, ◌++◌, length, map, nat_eq, Result, Ok, Err}
use Rattle.std.specs.Set.{is_member}
use Rattle.space_model.specs.declared.command.Operand.{Operand}
use Rattle.space_model.specs.declared.reply.Refusal.{Refusal}
use Rattle.space_model.specs.declared.reply.Reply.TheVariants.{NoMemory, Dumped, Refused}
use Rattle.space_model.specs.Ages.{is_protected, is_old}
use Rattle.space_model.specs.DumpLines.{DumpLine}
use Rattle.space_model.specs.Graph.{item_of, children}
use Rattle.space_model.specs.Layout.{slot_bytes}
use Rattle.space_model.specs.Maps.{address_in, IsRising}
use Rattle.space_model.specs.Operands.{object_of}
use Rattle.space_model.specs.Outputs.{Output, Listed, Peeked, Replied}
use Rattle.space_model.specs.Places.{pool_of}
use Rattle.space_model.specs.State.{State, is_present}
use Rattle.space_model.specs.StoredWords.{stored}

-- the line of a name. Its references are where its children stand now, in the order of the fields that hold them
abbrev pub dump_line : State → ℕ → DumpLine
dump_line s name = record {
  address = address_in s.heap.place name;
  fields = length (item_of s.graph name).values;
  old = is_old s name;
  style = (item_of s.graph name).style;
  wb_protected = is_protected s.graph name;
  name = name;
  references = map (address_in s.heap.place) (children s.graph name);
  slot_size = slot_bytes (pool_of s.graph name);
}

-- the lines of names, in their order
abbrev pub dump_lines : State → List ℕ → List Output
dump_lines s names = map (λ name. Listed (dump_line s name)) names

-- the present names, in ascending order of place
pub record ArePresentNames (s : State) (names : List ℕ) : Type 0 where
  pub are : (name : ℕ) → (is_member nat_eq names name ≡ true) ↔ (is_present s name ≡ true)
  pub rising : IsRising s.heap.place names

-- the line of each present name was written, and then their number
abbrev pub DumpsAll : State → List ℕ → List Output → Type 0
DumpsAll s names answer = answer ≡ dump_lines s names ++ Replied (Dumped (length names)) ∷ []

-- there was no memory for the line of one of the names: those before it were written
pub record DumpsSome (s : State) (names : List ℕ) (answer : List Output) : Type 0 where
  pub before : List ℕ
  pub others : List ℕ
  pub names_are : names ≡ before ++ others
  pub some : others ≢ []
  pub answer_is : answer ≡ dump_lines s before ++ Replied NoMemory ∷ []

-- `dump`: a line for each present name, in ascending order of place; nothing is changed
pub record Dumps (s : State) (answer : List Output) (t : State) : Type 0 where
  pub names : List ℕ
  pub present : ArePresentNames s names
  pub lines : DumpsAll s names answer ⊎ DumpsSome s names answer
  pub unchanged : t ≡ s

-- what `peek` answers to the name, or to the refusal that was found instead
abbrev pub peek_answer : State → Result ℕ Refusal → List Output
peek_answer s (Ok name) = Peeked (address_in s.heap.place name) (stored s name) ∷ []
peek_answer s (Err why) = Replied (Refused why) ∷ []

-- `peek`: where the object stands, and the words of its fields as they are stored; nothing is changed
abbrev pub Peeks : State → Operand → List Output → State → Type 0
Peeks s object answer t = (answer ≡ peek_answer s (object_of s object)) × (t ≡ s)
