-- The ids that were given. That an object gets its id when it is first asked for, and keeps it over each move, is CRuby's; ids from
-- 8 in steps of 8 are this project's own.
use Rattle.std.specs.Prelude.{◌≡◌, ℕ, ◌+◌, ◌*◌, ◌<◌, nat_eq, if◌then◌else◌, List, [], ◌∷◌, ◌++◌, length, map, Option, None, Some, slice_get}
use Rattle.std.specs.Option.{option_map}
use Rattle.std.specs.Set.{is_member}
use Rattle.space_heap.specs.HeapView.{HeapView}
use Rattle.space_heap.specs.Objects.{is_object, resolved}
use Rattle.space_ids.specs.declared.ids.Found.{Found}
use Rattle.space_ids.specs.declared.ids.Found.TheVariants.{Never, Gone, Here}

-- the names with an id, in the order in which the ids were given, and where each object was last known to stand; None where it is gone
abbrev pub GivenIds : Type 0
GivenIds = List (ℕ × Option ℕ)

-- the names
abbrev pub names_in : GivenIds → List ℕ
names_in ids = map (λ entry. entry.0) ids

-- the addresses that are kept
abbrev pub addresses_in : GivenIds → List (Option ℕ)
addresses_in ids = map (λ entry. entry.1) ids

-- the id of the name at a place of the list, from 0
abbrev pub id_at : ℕ → ℕ
id_at k = 8 * (k + 1)

-- the id belongs to the name
abbrev pub IsIdOf : GivenIds → ℕ → ℕ → Type 0
IsIdOf ids name id = (k : ℕ) × (slice_get (names_in ids) k ≡ Some name) × (id ≡ id_at k)

-- what an id leads to
abbrev pub IsFound : GivenIds → ℕ → Found → Type 0
IsFound ids id Never = (k : ℕ) → k < length ids → id ≡ id_at k → ⊥
IsFound ids id Gone = (k : ℕ) × (slice_get (addresses_in ids) k ≡ Some None) × (id ≡ id_at k)
IsFound ids id (Here address) = (k : ℕ) × (slice_get (addresses_in ids) k ≡ Some (Some address)) × (id ≡ id_at k)

-- the ids after one is asked for: a name without one comes last
abbrev pub with_id : GivenIds → ℕ → ℕ → GivenIds
with_id ids name address = if is_member nat_eq (names_in ids) name then ids else ids ++ (name, Some address) ∷ []

-- an address that is kept, as long as an object stands there that isn't gone
abbrev pub still_kept : HeapView → Option ℕ → Option ℕ
still_kept heap None = None
still_kept heap (Some address) = if is_object heap (resolved heap address) then Some address else None

-- the ids once those of gone objects are told apart
abbrev pub purged : HeapView → GivenIds → GivenIds
purged heap ids = map (λ entry. (entry.0, still_kept heap entry.1)) ids

-- the ids once each kept address is the one that its object has now
abbrev pub refixed : HeapView → GivenIds → GivenIds
refixed heap ids = map (λ entry. (entry.0, option_map (resolved heap) entry.1)) ids
