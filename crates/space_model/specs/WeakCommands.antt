-- The commands on weak maps: `wset`, `wget`, `wkey`, `wsize` and `wdel`. They choose nothing, but that there may be no memory for a new key or
-- a new root.
use Rattle.std.specs.Prelude.{◌≡◌, ◌⊎◌, ℕ, List, Option, None, Some, is_some, Result, Ok, Err}
use Rattle.space_model.specs.declared.command.Operand.{Operand}
use Rattle.space_model.specs.declared.reply.Refusal.{Refusal}
use Rattle.space_model.specs.declared.reply.Reply.{Reply}
use Rattle.space_model.specs.declared.reply.Reply.TheVariants.{NoMemory, Done, Read, Truth, Number}
use Rattle.space_model.specs.declared.value.Value.{Value}
use Rattle.space_model.specs.declared.value.Value.TheVariants.{Nil, Name}
use Rattle.space_model.specs.Operands.{object_of}
use Rattle.space_model.specs.Refusals.{both, Refuses}
use Rattle.space_model.specs.RootCommands.{WritesRoot}
use Rattle.space_model.specs.State.{State, WeakEntry}
use Rattle.space_model.specs.WeakMaps.{weak_value, weak_size, with_weak_value, without_weak_value}

-- the weak maps have these entries
abbrev pub weak_replaced : State → List WeakEntry → State
weak_replaced s entries = record s { tables = record s.tables { weak = entries } }

-- what `wset` answers to the names of the key and the value, or to the refusal that was found instead. Where the key has no value in the map
-- there may be no memory for one, and then nothing is changed
abbrev pub WeakSetReply : State → List ℕ → Result (ℕ × ℕ) Refusal → Reply → State → Type 0
WeakSetReply s weak (Ok names) reply t =
    ((reply ≡ Done) × (t ≡ weak_replaced s (with_weak_value s.tables.weak weak names.0 names.1)))
    ⊎ ((reply ≡ NoMemory) × (weak_value s.tables.weak weak names.0 ≡ None) × (t ≡ s))
WeakSetReply s weak (Err why) reply t = Refuses s why reply t

-- `wset`: the key has the value in the map
abbrev pub SetsWeak : State → List ℕ → Operand → Operand → Reply → State → Type 0
SetsWeak s weak key value reply t = WeakSetReply s weak (both (object_of s key) (object_of s value)) reply t

-- the value that a root gets: nil where there is no name
abbrev pub name_or_nil : Option ℕ → Value
name_or_nil None = Nil
name_or_nil (Some name) = Name name

-- what `wget` answers to the name of the key, or to the refusal that was found instead
abbrev pub WeakGetReply : State → List ℕ → List ℕ → Result ℕ Refusal → Reply → State → Type 0
WeakGetReply s root weak (Ok key) reply t =
    WritesRoot s root (name_or_nil (weak_value s.tables.weak weak key)) (Read (name_or_nil (weak_value s.tables.weak weak key))) reply t
WeakGetReply s root weak (Err why) reply t = Refuses s why reply t

-- `wget`: the root holds the value of the key in the map, or nil where it has none
abbrev pub GetsWeak : State → List ℕ → List ℕ → Operand → Reply → State → Type 0
GetsWeak s root weak key reply t = WeakGetReply s root weak (object_of s key) reply t

-- what `wkey` answers to the name of the key, or to the refusal that was found instead
abbrev pub WeakKeyReply : State → List ℕ → Result ℕ Refusal → Reply → State → Type 0
WeakKeyReply s weak (Ok key) reply t = (reply ≡ Truth (is_some (weak_value s.tables.weak weak key))) × (t ≡ s)
WeakKeyReply s weak (Err why) reply t = Refuses s why reply t

-- `wkey`: whether the key has a value in the map
abbrev pub HasWeak : State → List ℕ → Operand → Reply → State → Type 0
HasWeak s weak key reply t = WeakKeyReply s weak (object_of s key) reply t

-- `wsize`: the number of entries of the map
abbrev pub CountsWeak : State → List ℕ → Reply → State → Type 0
CountsWeak s weak reply t = (reply ≡ Number (weak_size s.tables.weak weak)) × (t ≡ s)

-- what `wdel` answers to the name of the key, or to the refusal that was found instead
abbrev pub WeakDeleteReply : State → List ℕ → Result ℕ Refusal → Reply → State → Type 0
WeakDeleteReply s weak (Ok key) reply t =
    (reply ≡ Truth (is_some (weak_value s.tables.weak weak key))) × (t ≡ weak_replaced s (without_weak_value s.tables.weak weak key))
WeakDeleteReply s weak (Err why) reply t = Refuses s why reply t

-- `wdel`: the key has no value in the map any more
abbrev pub DeletesWeak : State → List ℕ → Operand → Reply → State → Type 0
DeletesWeak s weak key reply t = WeakDeleteReply s weak (object_of s key) reply t
