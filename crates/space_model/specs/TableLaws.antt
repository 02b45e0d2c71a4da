-- The laws of object ids and weak maps, which functions of this crate promise.
use Rattle.std.specs.Prelude.{◌≡◌, ◌↔◌, ℕ, ◌&&◌, true, nat_eq, if◌then◌else◌, is_some, List, None, Some}
use Rattle.std.specs.Str.{bytes_eq}
use Rattle.space_model.specs.declared.command.Command.{Command}
use Rattle.space_model.specs.declared.command.Command.TheVariants.{WeakSet, WeakDelete}
use Rattle.space_model.specs.Counts.{CountIs}
use Rattle.space_model.specs.IdCommands.{IsIdOf}
use Rattle.space_model.specs.Lawful.{Lawful}
use Rattle.space_model.specs.Outputs.{Output}
use Rattle.space_model.specs.Sound.{Sound}
use Rattle.space_model.specs.State.{State, WeakEntry, is_present}
use Rattle.space_model.specs.WeakMaps.{weak_value, weak_size, with_weak_value, without_weak_value}

-- a name keeps its id over each lawful command
abbrev pub IdsStay : Type 0
IdsStay =
    (s t : State) (command : Command) (outputs : List Output) → Lawful s command outputs t →
    (name id : ℕ) → IsIdOf s.tables.ids name id → IsIdOf t.tables.ids name id

-- in a sound state a name has one id, and an id belongs to one name
abbrev pub IdsAreOne : Type 0
IdsAreOne =
    (s : State) (name other id next : ℕ) → Sound s → IsIdOf s.tables.ids name id → IsIdOf s.tables.ids other next → (name ≡ other) ↔ (id ≡ next)

-- the command sets or deletes an entry of the map
abbrev pub ChangesMap : Command → List ℕ → Type 0
ChangesMap (WeakSet weak key value) changed = weak ≡ changed
ChangesMap (WeakDelete weak key) changed = weak ≡ changed
ChangesMap _ changed = ⊥

-- a map has after a lawful command that sets and deletes none of its entries, in a sound state, those entries that it had before of which the
-- key and the value are still present, and no others
abbrev pub EntriesGoWithObjects : Type 0
EntriesGoWithObjects =
    (s t : State) (command : Command) (outputs : List Output) → Lawful s command outputs t → Sound s →
    (weak : List ℕ) → (ChangesMap command weak → ⊥) → (key value : ℕ) →
    (weak_value t.tables.weak weak key ≡ Some value)
    ↔ ((weak_value s.tables.weak weak key ≡ Some value) × (is_present t key ≡ true) × (is_present t value ≡ true))

-- after a key got a value in a map it has it there, and all others have what they had
abbrev pub SetIsRead : Type 0
SetIsRead =
    (entries : List WeakEntry) (weak : List ℕ) (key value : ℕ) (other : List ℕ) (name : ℕ) →
    weak_value (with_weak_value entries weak key value) other name
    ≡ (if bytes_eq other weak && nat_eq name key then Some value else weak_value entries other name)

-- after the entry of a key was taken out of a map it has none there, and all others have what they had
abbrev pub DeletedIsGone : Type 0
DeletedIsGone =
    (entries : List WeakEntry) (weak : List ℕ) (key : ℕ) (other : List ℕ) (name : ℕ) →
    weak_value (without_weak_value entries weak key) other name
    ≡ (if bytes_eq other weak && nat_eq name key then None else weak_value entries other name)

-- in a sound state a map has as many entries as keys have a value in it
abbrev pub SizeIsOfKeys : Type 0
SizeIsOfKeys =
    (s : State) (weak : List ℕ) → Sound s →
    CountIs (λ key. is_some (weak_value s.tables.weak weak key) ≡ true) (weak_size s.tables.weak weak)
