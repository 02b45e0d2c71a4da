-- How entries are stored: for each weak map a list of keys, each with a link to its value.
use Rattle.std.specs.Prelude.{⊤, ℕ, Bool, nat_eq, ◌&&◌, List, [], ◌∷◌, ◌++◌, map, filter}
use Rattle.std.specs.List.{IsDistinct}
use Rattle.std.specs.Map.{keys_of}
use Rattle.std.specs.Str.{bytes_eq}
use Rattle.space_heap.specs.HeapView.{HeapView}
use Rattle.space_heap.specs.Objects.{resolved}
use Rattle.space_weak.specs.declared.weak.Link.{Link}
use Rattle.space_weak.specs.WeakEntries.{Entry, entry_with, is_live}

-- the entry of a key and its link
abbrev pub entry_from : List ℕ → ℕ × Link → Entry
entry_from weak stored = entry_with weak stored.0 stored.1.key_address stored.1.value_name stored.1.value_address

-- the object of the key and that of the value are live
abbrev pub both_live : HeapView → Link → Bool
both_live heap link = is_live heap link.key_address && is_live heap link.value_address

-- the links of which neither object is gone
abbrev pub live_links : HeapView → List (ℕ × Link) → List (ℕ × Link)
live_links heap links = filter (λ stored. both_live heap stored.1) links

-- the link with the addresses that its objects have now
abbrev pub refixed_link : HeapView → Link → Link
refixed_link heap link = record link { key_address = resolved heap link.key_address; value_address = resolved heap link.value_address }

-- all links so
abbrev pub refixed_links : HeapView → List (ℕ × Link) → List (ℕ × Link)
refixed_links heap links = map (λ stored. (stored.0, refixed_link heap stored.1)) links

module _ {X : Type 0} (links : X → List (ℕ × Link)) where
  -- the entries of all maps, one map after another
  abbrev pub entries_in : List (List ℕ × X) → List Entry
  entries_in [] = []
  entries_in (stored ∷ maps) = map (entry_from stored.0) (links stored.1) ++ entries_in maps

  -- no map has a key twice
  abbrev pub HaveOwnKeys : List (List ℕ × X) → Type 0
  HaveOwnKeys [] = ⊤
  HaveOwnKeys (stored ∷ maps) = IsDistinct nat_eq (keys_of (links stored.1)) × HaveOwnKeys maps

  -- what holds of the stored maps
  pub record AreStored (maps : List (List ℕ × X)) : Type 0 where
    pub distinct : IsDistinct bytes_eq (keys_of maps)
    pub own_keys : HaveOwnKeys maps
