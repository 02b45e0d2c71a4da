-- The ids of the table are those of the model, for those who hold the list of names beside it.
use Rattle.std.proofs.Common.{◌≡◌, ℕ, zero, suc, ◌<◌, nat_eq, length, map, [], ◌∷◌, ◌++◌, slice_get, refl, ap, arith, ⊎_elim, Option, None, Some}
use Rattle.std.proofs.lemmas.Bool.{cases_Bool}
use Rattle.std.proofs.lemmas.List.{length-map}
use Rattle.std.proofs.lemmas.Option.{slice_get_within}
use Rattle.std.specs.Option.{option_map}
use Rattle.std.specs.Set.{is_member}
use Rattle.space_heap.specs.HeapView.{HeapView}
use Rattle.space_heap.specs.Objects.{resolved}
use Rattle.space_model.specs.IdCommands.{with_id as with_name, IsIdOf as IsIdOfName}
use Rattle.space_ids.specs.declared.ids.Found.TheVariants.{Never, Gone, Here}
use Rattle.space_ids.specs.GivenIds.{GivenIds, names_in, addresses_in, with_id, still_kept, purged, refixed, IsIdOf, IsFound}

-- names that were asked for
pub names-with_id : (ids : GivenIds) (name address : ℕ) → names_in (with_id ids name address) ≡ with_name (names_in ids) name
names-with_id ids name address = ⊎_elim
    (λ t. rw t refl)
    (λ f. rw f (names-push ids))
    (cases_Bool (is_member nat_eq (names_in ids) name))
  where
    names-push : (ids : GivenIds) → names_in (ids ++ (name, Some address) ∷ []) ≡ names_in ids ++ name ∷ []
    names-push [] = refl
    names-push (entry ∷ ids) = ap (λ names. entry.0 ∷ names) (names-push ids)

-- a walk that writes what is kept leaves the names
names-kept : (g : Option ℕ → Option ℕ) (ids : GivenIds) → names_in (map (λ entry. (entry.0, g entry.1)) ids) ≡ names_in ids
names-kept g [] = refl
names-kept g (entry ∷ ids) = ap (λ names. entry.0 ∷ names) (names-kept g ids)

pub names-purged : (heap : HeapView) (ids : GivenIds) → names_in (purged heap ids) ≡ names_in ids
names-purged heap ids = names-kept (still_kept heap) ids

pub names-refixed : (heap : HeapView) (ids : GivenIds) → names_in (refixed heap ids) ≡ names_in ids
names-refixed heap ids = names-kept (option_map (resolved heap)) ids

-- the id of a name is that of the model
pub id_of_name : (ids : GivenIds) (name id : ℕ) → IsIdOf ids name id → IsIdOfName (names_in ids) name id
id_of_name ids name id is = is

-- a name with the id, and what is kept of its object
pub record HasKept (ids : GivenIds) (id : ℕ) (kept : Option ℕ) : Type 0 where
  pub name : ℕ
  pub place : ℕ
  pub entry : slice_get ids place ≡ Some (name, kept)
  pub id_is : IsIdOfName (names_in ids) name id

kept_entry : (ids : GivenIds) (k : ℕ) (kept : Option ℕ) → slice_get (addresses_in ids) k ≡ Some kept →
    (name : ℕ) × (slice_get ids k ≡ Some (name, kept)) × (slice_get (names_in ids) k ≡ Some name)
kept_entry [] k kept e = absurd (cc)
kept_entry (entry ∷ ids) zero kept e = let same : entry.1 ≡ kept = cc in (entry.0, ap (λ kept. Some (entry.0, kept)) same, refl)
kept_entry (entry ∷ ids) (suc k) kept e = kept_entry ids k kept e

-- what was found of an id
pub found_gone : (ids : GivenIds) (id : ℕ) → IsFound ids id Gone → HasKept ids id None
found_gone ids id (k, at, is) =
    let (name, entry, named) = kept_entry ids k None at in
    record { name = name; place = k; entry = entry; id_is = (k, named, is) }

pub found_here : (ids : GivenIds) (id address : ℕ) → IsFound ids id (Here address) → HasKept ids id (Some address)
found_here ids id address (k, at, is) =
    let (name, entry, named) = kept_entry ids k (Some address) at in
    record { name = name; place = k; entry = entry; id_is = (k, named, is) }

pub found_never : (ids : GivenIds) (id : ℕ) → IsFound ids id Never → (name : ℕ) → IsIdOfName (names_in ids) name id → ⊥
found_never ids id never name (k, at, is) =
    let within : k < length (names_in ids) = slice_get_within (names_in ids) k name at in
    let long = length-map ids (λ entry. entry.0) in
    never k (omega (arith, within, long)) is
