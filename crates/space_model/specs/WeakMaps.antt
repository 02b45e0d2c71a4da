-- The entries of weak maps. That keys are compared by identity, and that an entry goes with its key or its value, is CRuby's
-- `ObjectSpace::WeakMap` (3.3); maps under names of their own are this project's.
use Rattle.std.specs.Prelude.{ℕ, not, Bool, ◌&&◌, nat_eq, if◌then◌else◌, List, [], ◌∷◌, length, Option, None, Some}
use Rattle.std.specs.List.{filter}
use Rattle.std.specs.Set.{is_member}
use Rattle.std.specs.Str.{bytes_eq}
use Rattle.space_model.specs.State.{WeakEntry}

-- the entry belongs to this map and this key
abbrev pub is_entry_of : List ℕ → ℕ → WeakEntry → Bool
is_entry_of weak key entry = bytes_eq weak entry.map_name && nat_eq key entry.key_name

-- the value of a key in a map; None where it has none
abbrev pub weak_value : List WeakEntry → List ℕ → ℕ → Option ℕ
weak_value [] weak key = None
weak_value (entry ∷ entries) weak key = if is_entry_of weak key entry then Some entry.value_name else weak_value entries weak key

-- how many entries a map has; 0 where there is no such map
abbrev pub weak_size : List WeakEntry → List ℕ → ℕ
weak_size entries weak = length (filter (λ entry. bytes_eq weak entry.map_name) entries)

-- the entries after a key got a value in a map: it comes in the place of the value that the key had, and last where it had none
abbrev pub with_weak_value : List WeakEntry → List ℕ → ℕ → ℕ → List WeakEntry
with_weak_value [] weak key value = record { map_name = weak; key_name = key; value_name = value } ∷ []
with_weak_value (entry ∷ entries) weak key value =
    if is_entry_of weak key entry then record { map_name = weak; key_name = key; value_name = value } ∷ entries
    else entry ∷ with_weak_value entries weak key value

-- the entries without that of a key in a map
abbrev pub without_weak_value : List WeakEntry → List ℕ → ℕ → List WeakEntry
without_weak_value entries weak key = filter (λ entry. not (is_entry_of weak key entry)) entries

-- the entries of which neither the key nor the value is among the names
abbrev pub entries_left : List ℕ → List WeakEntry → List WeakEntry
entries_left taken entries =
    filter (λ entry. not (is_member nat_eq taken entry.key_name) && not (is_member nat_eq taken entry.value_name)) entries
