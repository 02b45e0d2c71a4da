-- The entries of all weak maps. That keys are compared by identity, and that an entry goes with its key or its value, is CRuby's
-- `ObjectSpace::WeakMap`; maps under names of their own are this project's.
use Rattle.std.specs.Prelude.{ℕ, Bool, nat_eq, ◌&&◌, not, if◌then◌else◌, List, [], ◌∷◌, length, map, filter, Option, None, Some}
use Rattle.std.specs.List.{IsDistinct}
use Rattle.std.specs.Str.{bytes_eq}
use Rattle.space_model.specs.State.{WeakEntry}
use Rattle.space_heap.specs.HeapView.{HeapView}
use Rattle.space_heap.specs.Objects.{is_object, resolved}

-- a map's name, the key's name and the value's, and where the two objects were last known to stand
pub record Entry : Type 0 where
  pub map_name : List ℕ
  pub key_name : ℕ
  pub key_address : ℕ
  pub value_name : ℕ
  pub value_address : ℕ

-- the entry with these parts
abbrev pub entry_with : List ℕ → ℕ → ℕ → ℕ → ℕ → Entry
entry_with weak key key_address value value_address =
    record { map_name = weak; key_name = key; key_address = key_address; value_name = value; value_address = value_address }

-- the entry belongs to this map and this key
abbrev pub is_at : List ℕ → ℕ → Entry → Bool
is_at weak key entry = bytes_eq weak entry.map_name && nat_eq key entry.key_name

-- the entry of a key in a map
abbrev pub entry_of : List Entry → List ℕ → ℕ → Option Entry
entry_of [] weak key = None
entry_of (entry ∷ entries) weak key = if is_at weak key entry then Some entry else entry_of entries weak key

-- how many entries a map has
abbrev pub size_of : List Entry → List ℕ → ℕ
size_of entries weak = length (filter (λ entry. bytes_eq weak entry.map_name) entries)

-- no two entries belong to the same map and key
abbrev pub AreApart : List Entry → Type 0
AreApart entries = IsDistinct (λ one other. is_at one.map_name one.key_name other) entries

-- the entries after one is set: it comes in the place of the one of its map and key, and last where there is none
abbrev pub with_entry : List Entry → Entry → List Entry
with_entry [] new = new ∷ []
with_entry (entry ∷ entries) new = if is_at new.map_name new.key_name entry then new ∷ entries else entry ∷ with_entry entries new

-- the entries without that of a map and a key
abbrev pub without_entry : List Entry → List ℕ → ℕ → List Entry
without_entry entries weak key = filter (λ entry. not (is_at weak key entry)) entries

-- an object that isn't gone stands at the address
abbrev pub is_live : HeapView → ℕ → Bool
is_live heap address = is_object heap (resolved heap address)

-- the entries of which neither object is gone
abbrev pub purged : HeapView → List Entry → List Entry
purged heap entries = filter (λ entry. is_live heap entry.key_address && is_live heap entry.value_address) entries

-- the entry once its addresses are those that its objects have now
abbrev pub refixed_entry : HeapView → Entry → Entry
refixed_entry heap entry = record entry { key_address = resolved heap entry.key_address; value_address = resolved heap entry.value_address }

-- all entries so
abbrev pub refixed : HeapView → List Entry → List Entry
refixed heap entries = map (refixed_entry heap) entries

-- the model's entries, which have names alone
abbrev pub named_entries : List Entry → List WeakEntry
named_entries entries = map (λ entry. record { map_name = entry.map_name; key_name = entry.key_name; value_name = entry.value_name }) entries
