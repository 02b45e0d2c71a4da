-- Ids in their list, and what a walk over the list has written so far.
use Rattle.std.proofs.Common.{◌≡◌, ℕ, zero, suc, ◌+◌, ◌<◌, List, [], ◌∷◌, ◌++◌, length, map, take, drop, slice_get, get_or, position, nat_eq, Bool, Option}
use Rattle.std.proofs.Common.{None, false, true≢false, is_some, add-one, refl, sym, ap, ◌∙◌, Some, arith}
use Rattle.std.proofs.lemmas.Bool.{eqb-true}
use Rattle.std.proofs.lemmas.List.Quantifiers.{position-Some}
use Rattle.std.proofs.lemmas.Map.Made.{is_some-lookup}
use Rattle.std.proofs.lemmas.Option.{same_Some, slice_get-get_or, slice_get-map}
use Rattle.std.specs.Map.{values_of, lookup}
use Rattle.std.specs.Option.{option_map}
use Rattle.std.specs.Set.{is_member}
use Rattle.indexmap.specs.Layout.{set_value_at, length-set_value_at}
use Rattle.space_ids.specs.GivenIds.{GivenIds, names_in, addresses_in}
use Rattle.space_ids.specs.Inside.{AreIds}

module _ {X : Type 0} (g : X → X) where
  abbrev changed : List (ℕ × X) → List (ℕ × X)
  changed entries = map (λ entry. (entry.0, g entry.1)) entries

  changed-suc : (entries : List (ℕ × X)) (k : ℕ) (x : X) → k < length entries → slice_get (values_of (changed (take k entries) ++ drop k entries)) k ≡ Some x
      → set_value_at (changed (take k entries) ++ drop k entries) k (g x) ≡ changed (take (suc k) entries) ++ drop (suc k) entries
  changed-suc [] k x h at = absurd (omega arith)
  changed-suc (entry ∷ entries) zero x h at = ap (λ y. (entry.0, g y) ∷ entries) (sym (same_Some entry.1 x at))
  changed-suc (entry ∷ entries) (suc k) x h at = ap (λ rest. (entry.0, g entry.1) ∷ rest) (changed-suc entries k x (omega arith) at)

  -- one entry more is written
  pub changed-next : (entries : List (ℕ × X)) (k : ℕ) (x : X) → k < length entries
      → slice_get (values_of (changed (take k entries) ++ drop k entries)) k ≡ Some x
      → set_value_at (changed (take k entries) ++ drop k entries) k (g x) ≡ changed (take (k + 1) entries) ++ drop (k + 1) entries
  changed-next entries k x h at = rw add-one (changed-suc entries k x h at)

-- the place at which a look-up finds a name has this name
pub name_found : (ids : GivenIds) (name k : ℕ) → position (nat_eq name) (names_in ids) ≡ Some k → slice_get (names_in ids) k ≡ Some name
name_found ids name k at =
    let p = position-Some (nat_eq name) (names_in ids) k 0 at in
    let same : name ≡ get_or (names_in ids) k 0 = eqb-true name _ p.1 in
    slice_get-get_or (names_in ids) k 0 p.0 ∙ ap Some (sym same)

-- whether a name has an id
pub has_id : (ids : GivenIds) (name : ℕ) (found : Bool) → is_some (lookup (nat_eq name) ids) ≡ found → is_member nat_eq (names_in ids) name ≡ found
has_id ids name found h = sym (is_some-lookup (nat_eq name) ids) ∙ h

-- what is kept at a place
pub kept_at : (ids : GivenIds) (k : ℕ) (name : ℕ) (kept : Option ℕ) → Some (name, kept) ≡ slice_get ids k → slice_get (addresses_in ids) k ≡ Some kept
kept_at ids k name kept at = slice_get-map (λ entry. entry.1) ids k ∙ ap (option_map (λ entry. entry.1)) (sym at)

-- a name that was written last
pub name_last : (ids : GivenIds) (name : ℕ) (kept : Option ℕ) → slice_get (names_in (ids ++ (name, kept) ∷ [])) (length ids) ≡ Some name
name_last [] name kept = refl
name_last (entry ∷ ids) name kept = name_last ids name kept

-- a write of what is kept leaves the names
names_in-set_value_at : (ids : GivenIds) (k : ℕ) (kept : Option ℕ) → names_in (set_value_at ids k kept) ≡ names_in ids
names_in-set_value_at [] k kept = refl
names_in-set_value_at (entry ∷ ids) zero kept = refl
names_in-set_value_at (entry ∷ ids) (suc k) kept = ap (λ names. entry.0 ∷ names) (names_in-set_value_at ids k kept)

-- so they are distinct and as few as before
pub AreIds-written : (ids : GivenIds) (k : ℕ) (kept : Option ℕ) → AreIds ids → AreIds (set_value_at ids k kept)
AreIds-written ids k kept h = record { distinct = rw (names_in-set_value_at ids k kept) h.distinct; few = rw (length-set_value_at ids k kept) h.few }

-- a look-up that found nothing
pub none_found : (found : Option (Option ℕ)) → is_some found ≡ false → found ≡ None
none_found None h = refl
none_found (Some kept) h = absurd (true≢false h)
