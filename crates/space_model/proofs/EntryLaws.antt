-- Entries of weak maps after one was set or deleted, and after names went.
use Rattle.std.proofs.Common.{◌≡◌, ℕ, ◌&&◌, ◌||◌, not, Bool, true, false, if◌then◌else◌, List, [], ◌∷◌, ◌++◌, map, nat_eq, refl, sym, ap, ◌∙◌, ⊎_elim, None, Some}
use Rattle.std.specs.Prelude.{is_some}
use Rattle.std.specs.List.{filter, IsDistinct}
use Rattle.std.specs.Set.{is_member}
use Rattle.std.specs.Str.{bytes_eq}
use Rattle.std.specs.Ordering.{nat_cmp}
use Rattle.std.specs.FinMap.{FinMap}
use Rattle.std.proofs.lemmas.Bool.{cases_Bool, and_parts, and_from, not-true, eq-eqb, eqb-true, false≢true, false_from_ne_true}
use Rattle.std.proofs.lemmas.List.{length-map}
use Rattle.std.proofs.lemmas.List.Folds.{list_any-append}
use Rattle.std.proofs.lemmas.Slice.Eq.{bytes_eq-Decides}
use Rattle.space_model.specs.Counts.{CountIs}
use Rattle.space_model.specs.Sound.{AreSoundEntries}
use Rattle.space_model.specs.State.{WeakEntry}
use Rattle.space_model.specs.WeakMaps.{is_entry_of, weak_value, weak_size, with_weak_value, without_weak_value, entries_left}
use Rattle.space_model.proofs.Growing.{IsDistinct-cons}
use Rattle.space_model.proofs.TablesKept.{no_some, absent-filter, entry_parts}

-- one and the same, by map and key
abbrev pub are_same : List ℕ → ℕ → List ℕ → ℕ → Bool
are_same other name weak key = bytes_eq other weak && nat_eq name key

-- an entry of a map and a key is one of others exactly where these are the same
same_entry : (weak : List ℕ) (key : ℕ) (other : List ℕ) (name : ℕ) (entry : WeakEntry) → is_entry_of weak key entry ≡ true →
    is_entry_of other name entry ≡ are_same other name weak key
same_entry weak key other name entry t = let both = entry_parts weak key entry t in rw (both.0, both.1) refl

-- and where an entry is of both, both are the same
both_same : (weak : List ℕ) (key : ℕ) (other : List ℕ) (name : ℕ) (entry : WeakEntry) → is_entry_of weak key entry ≡ false →
    is_entry_of other name entry ≡ true → are_same other name weak key ≡ false
both_same weak key other name entry f t = false_from_ne_true _ (λ same.
    let of = entry_parts other name entry t in
    let both = and_parts _ _ same in
    let map_same : bytes_eq weak entry.map_name ≡ true =
    (bytes_eq-Decides weak entry.map_name).1 (sym ((bytes_eq-Decides other weak).0 both.0) ∙ of.0) in
    let key_same : nat_eq key entry.key_name ≡ true = eq-eqb key entry.key_name (sym (eqb-true name key both.1) ∙ of.1) in
    false≢true (sym f ∙ and_from _ _ map_same key_same))

pub set_read : (entries : List WeakEntry) (weak : List ℕ) (key value : ℕ) (other : List ℕ) (name : ℕ) →
    weak_value (with_weak_value entries weak key value) other name
    ≡ (if bytes_eq other weak && nat_eq name key then Some value else weak_value entries other name)
set_read [] weak key value other name = refl
set_read (entry ∷ entries) weak key value other name = ⊎_elim
    (λ (t : is_entry_of weak key entry ≡ true). ⊎_elim
    (λ (same : are_same other name weak key ≡ true). rw (t, same) refl)
    (λ (apart : are_same other name weak key ≡ false). rw (t, apart, same_entry weak key other name entry t ∙ apart) refl)
    (cases_Bool (are_same other name weak key)))
    (λ (f : is_entry_of weak key entry ≡ false). ⊎_elim
    (λ (t : is_entry_of other name entry ≡ true). rw (f, t, both_same weak key other name entry f t) refl)
    (λ (g : is_entry_of other name entry ≡ false). rw (f, g) (set_read entries weak key value other name))
    (cases_Bool (is_entry_of other name entry)))
    (cases_Bool (is_entry_of weak key entry))

pub deleted_gone : (entries : List WeakEntry) (weak : List ℕ) (key : ℕ) (other : List ℕ) (name : ℕ) →
    weak_value (without_weak_value entries weak key) other name
    ≡ (if bytes_eq other weak && nat_eq name key then None else weak_value entries other name)
deleted_gone [] weak key other name = ⊎_elim
    (λ (same : are_same other name weak key ≡ true). rw same refl)
    (λ (apart : are_same other name weak key ≡ false). rw apart refl)
    (cases_Bool (are_same other name weak key))
deleted_gone (entry ∷ entries) weak key other name =
    let rest = deleted_gone entries weak key other name in
    ⊎_elim
    (λ (t : is_entry_of weak key entry ≡ true). ⊎_elim
    (λ (same : are_same other name weak key ≡ true). rw (t, same) (rw same at rest))
    (λ (apart : are_same other name weak key ≡ false). rw (t, apart, same_entry weak key other name entry t ∙ apart) (rw apart at rest))
    (cases_Bool (are_same other name weak key)))
    (λ (f : is_entry_of weak key entry ≡ false). ⊎_elim
    (λ (t : is_entry_of other name entry ≡ true). rw (f, t, both_same weak key other name entry f t) refl)
    (λ (g : is_entry_of other name entry ≡ false). rw (f, g) rest)
    (cases_Bool (is_entry_of other name entry)))
    (cases_Bool (is_entry_of weak key entry))

-- how many entries a map has

-- the keys that have a value in a map
abbrev pub keys_in : List WeakEntry → List ℕ → List ℕ
keys_in entries weak = map (λ entry. entry.key_name) (filter (λ entry. bytes_eq weak entry.map_name) entries)

keys_have : (entries : List WeakEntry) (weak : List ℕ) (key : ℕ) → is_member nat_eq (keys_in entries weak) key ≡ is_some (weak_value entries weak key)
keys_have [] weak key = refl
keys_have (entry ∷ entries) weak key =
    let rest = keys_have entries weak key in
    ⊎_elim
    (λ (m : bytes_eq weak entry.map_name ≡ true). ⊎_elim
    (λ (k : nat_eq key entry.key_name ≡ true). rw (m, k) refl)
    (λ (j : nat_eq key entry.key_name ≡ false). rw (m, j) rest)
    (cases_Bool (nat_eq key entry.key_name)))
    (λ (n : bytes_eq weak entry.map_name ≡ false). rw n rest)
    (cases_Bool (bytes_eq weak entry.map_name))

keys_once : (place : FinMap nat_cmp ℕ) (entries : List WeakEntry) (weak : List ℕ) → AreSoundEntries place entries → IsDistinct nat_eq (keys_in entries weak)
unfolding IsDistinct
keys_once place [] weak h = tt
keys_once place (entry ∷ entries) weak h =
    let rest = keys_once place entries weak h.3 in
    ⊎_elim
    (λ (m : bytes_eq weak entry.map_name ≡ true).
    let none : weak_value entries weak entry.key_name ≡ None =
    ap (λ name. weak_value entries name entry.key_name) ((bytes_eq-Decides weak entry.map_name).0 m) ∙ h.2 in
    rw m (IsDistinct-cons entry.key_name (keys_in entries weak) rest (keys_have entries weak entry.key_name ∙ ap is_some none)))
    (λ (n : bytes_eq weak entry.map_name ≡ false). rw n rest)
    (cases_Bool (bytes_eq weak entry.map_name))

pub size_of_keys : (place : FinMap nat_cmp ℕ) (entries : List WeakEntry) (weak : List ℕ) → AreSoundEntries place entries →
    CountIs (λ key. is_some (weak_value entries weak key) ≡ true) (weak_size entries weak)
size_of_keys place entries weak h = record {
  names = keys_in entries weak;
  once = keys_once place entries weak h;
  are = λ key. ((λ m. sym (keys_have entries weak key) ∙ m), (λ e. keys_have entries weak key ∙ e));
  long = length-map (filter (λ (entry : WeakEntry). bytes_eq weak entry.map_name) entries) (λ entry. entry.key_name);
}

-- names that went

abbrev stays : List ℕ → WeakEntry → Bool
stays taken entry = not (is_member nat_eq taken entry.key_name) && not (is_member nat_eq taken entry.value_name)

-- where none goes all entries are left
pub all_left : (entries : List WeakEntry) → entries_left [] entries ≡ entries
all_left [] = refl
all_left (entry ∷ entries) = ap (λ rest. entry ∷ rest) (all_left entries)

both_stay : (a b c d : Bool) → (not (a || b) && not (c || d)) ≡ ((not a && not c) && (not b && not d))
both_stay true b c d = refl
both_stay false true true d = refl
both_stay false false true d = refl
both_stay false b false d = refl

-- where some go and then others, those are left that stay both times
pub left_twice : (now later : List ℕ) (entries : List WeakEntry) → entries_left later (entries_left now entries) ≡ entries_left (now ++ later) entries
left_twice now later [] = refl
left_twice now later (entry ∷ entries) =
    let rest = left_twice now later entries in
    let together : stays (now ++ later) entry ≡ (stays now entry && stays later entry) =
    rw (list_any-append (nat_eq entry.key_name) now later, list_any-append (nat_eq entry.value_name) now later)
    (both_stay (is_member nat_eq now entry.key_name) (is_member nat_eq later entry.key_name)
    (is_member nat_eq now entry.value_name) (is_member nat_eq later entry.value_name)) in
    ⊎_elim
    (λ (t : stays now entry ≡ true). ⊎_elim
    (λ (u : stays later entry ≡ true). rw (together, t, u) (ap (λ rest. entry ∷ rest) rest))
    (λ (v : stays later entry ≡ false). rw (together, t, v) rest)
    (cases_Bool (stays later entry)))
    (λ (f : stays now entry ≡ false). rw (together, f) rest)
    (cases_Bool (stays now entry))

-- a key has the value after names went that it had before, where neither of the two went
pub left_value : (place : FinMap nat_cmp ℕ) (taken : List ℕ) (entries : List WeakEntry) (weak : List ℕ) (key value : ℕ) → AreSoundEntries place entries →
    weak_value (entries_left taken entries) weak key ≡ Some value →
    (weak_value entries weak key ≡ Some value) × (is_member nat_eq taken key ≡ false) × (is_member nat_eq taken value ≡ false)
left_value place taken [] weak key value h e = absurd (cc)
left_value place taken (entry ∷ entries) weak key value h e = ⊎_elim
    (λ (t : is_entry_of weak key entry ≡ true).
    let of = entry_parts weak key entry t in
    ⊎_elim
    (λ (p : stays taken entry ≡ true).
    let same : entry.value_name ≡ value = (let f = rw (p, t) at e in cc) in
    let both = and_parts _ _ p in (
      rw t (ap Some same),
      ap (is_member nat_eq taken) of.1 ∙ not-true _ both.0,
      ap (is_member nat_eq taken) (sym same) ∙ not-true _ both.1,
    ))
    (λ (q : stays taken entry ≡ false).
    let none : weak_value entries weak key ≡ None = rw (of.0, of.1) h.2 in
    absurd (no_some value (sym (rw q at e) ∙ absent-filter (stays taken) entries weak key none)))
    (cases_Bool (stays taken entry)))
    (λ (f : is_entry_of weak key entry ≡ false).
    let later : weak_value (entries_left taken entries) weak key ≡ Some value = ⊎_elim
    (λ (p : stays taken entry ≡ true). rw (p, f) at e)
    (λ (q : stays taken entry ≡ false). rw q at e)
    (cases_Bool (stays taken entry)) in
    let rest = left_value place taken entries weak key value h.3 later in
    (rw f rest.0, rest.1, rest.2))
    (cases_Bool (is_entry_of weak key entry))

pub value_left : (taken : List ℕ) (entries : List WeakEntry) (weak : List ℕ) (key value : ℕ) → weak_value entries weak key ≡ Some value →
    is_member nat_eq taken key ≡ false → is_member nat_eq taken value ≡ false → weak_value (entries_left taken entries) weak key ≡ Some value
value_left taken [] weak key value e k v = absurd (cc)
value_left taken (entry ∷ entries) weak key value e k v = ⊎_elim
    (λ (t : is_entry_of weak key entry ≡ true).
    let of = entry_parts weak key entry t in
    let same : entry.value_name ≡ value = (let f = rw t at e in cc) in
    let p : stays taken entry ≡ true =
    and_from _ _ (ap not (ap (is_member nat_eq taken) (sym of.1) ∙ k)) (ap not (ap (is_member nat_eq taken) same ∙ v)) in
    rw (p, t) (ap Some same))
    (λ (f : is_entry_of weak key entry ≡ false).
    let rest = value_left taken entries weak key value (rw f at e) k v in
    ⊎_elim
    (λ (p : stays taken entry ≡ true). rw (p, f) rest)
    (λ (q : stays taken entry ≡ false). rw q rest)
    (cases_Bool (stays taken entry)))
    (cases_Bool (is_entry_of weak key entry))
