-- Names with an id were allocated, entries of weak maps have present keys and values, and finalizers are of objects that aren't swept until
-- they are queued.
use Rattle.std.proofs.Common.{◌≡◌, ℕ, ◌<◌, ◌≤◌, ◌&&◌, not, Bool, true, false, List, [], ◌∷◌, length, nat_eq, refl, sym, ap, ◌∙◌, arith, ⊎_elim, Option, None, Some}
use Rattle.std.specs.Prelude.{is_some}
use Rattle.std.specs.List.{filter}
use Rattle.std.specs.Set.{is_member}
use Rattle.std.specs.Str.{bytes_eq}
use Rattle.std.specs.Cmp.{nat_eq_equiv}
use Rattle.std.specs.Ordering.{nat_cmp}
use Rattle.std.specs.FinMap.{FinMap, get}
use Rattle.std.proofs.lemmas.Bool.{cases_Bool, and_parts, and_from, or_cases, eq-eqb, eqb-true, not-true, false≢true, false_from_ne_true}
use Rattle.std.proofs.lemmas.Map.Keys.{IsDistinct-push}
use Rattle.std.proofs.lemmas.Slice.Eq.{bytes_eq-Decides}
use Rattle.space_model.specs.Graph.{Item}
use Rattle.space_model.specs.IdCommands.{with_id}
use Rattle.space_model.specs.Maps.{without}
use Rattle.space_model.specs.Sound.{SoundIds, AreSoundEntries, SoundFinals, SoundQueue}
use Rattle.space_model.specs.State.{Tables, WeakEntry}
use Rattle.space_model.specs.WeakMaps.{is_entry_of, weak_value, with_weak_value, without_weak_value, entries_left}
use Rattle.space_model.proofs.MapLaws.{present-without}
use Rattle.space_model.proofs.Members.{member_cases}

-- what is asked of the tables
pub record SoundTables (graph : List Item) (place corpses : FinMap nat_cmp ℕ) (tables : Tables) : Type 0 where
  pub ids : SoundIds graph tables.ids
  pub weak : AreSoundEntries place tables.weak
  pub finals : SoundFinals place corpses tables.finals
  pub queue : SoundQueue graph place corpses tables.queue

-- ids

-- of a graph that is no shorter
pub SoundIds-longer : (graph later : List Item) (ids : List ℕ) → length graph ≤ length later → SoundIds graph ids → SoundIds later ids
SoundIds-longer graph later ids long h = record { allocated = λ n m. let b = h.allocated n m in (b.0, omega arith); once = h.once }

-- of names to which one more came
pub SoundIds-with_id : (graph : List Item) (ids : List ℕ) (name : ℕ) → 0 < name → name ≤ length graph → SoundIds graph ids → SoundIds graph (with_id ids name)
SoundIds-with_id graph ids name some old h = ⊎_elim
    (λ t. rw t h)
    (λ f. rw f (record {
      allocated = λ n m. ⊎_elim
          (λ before. h.allocated n before)
          (λ last. let same : n ≡ name = last_name n last in (omega (arith, same, some), omega (arith, same, old)))
          (member_cases ids (name ∷ []) n m);
      once = IsDistinct-push nat_eq_equiv ids name h.once f;
    }))
    (cases_Bool (is_member nat_eq ids name))
  where
    last_name : (n : ℕ) → is_member nat_eq (name ∷ []) n ≡ true → n ≡ name
    last_name n m = ⊎_elim (λ same. eqb-true n name same) (λ none. absurd (false≢true none)) (or_cases _ _ m)

-- weak maps

-- where what was present is present
pub AreSoundEntries-present : (place later : FinMap nat_cmp ℕ) (entries : List WeakEntry) →
    ((n : ℕ) → is_some (get place n) ≡ true → is_some (get later n) ≡ true) → AreSoundEntries place entries → AreSoundEntries later entries
AreSoundEntries-present place later [] stays h = tt
AreSoundEntries-present place later (entry ∷ entries) stays h =
    (stays entry.key_name h.0, stays entry.value_name h.1, h.2, AreSoundEntries-present place later entries stays h.3)

pub no_some : (n : ℕ) → ◌≡◌ {A = Option ℕ} (Some n) None → ⊥
no_some n e = cc

-- a key without a value has none among fewer entries
pub absent-filter : (test : WeakEntry → Bool) (entries : List WeakEntry) (weak : List ℕ) (key : ℕ) → weak_value entries weak key ≡ None →
    weak_value (filter test entries) weak key ≡ None
absent-filter test [] weak key none = refl
absent-filter test (entry ∷ entries) weak key none = ⊎_elim
    (λ (t : is_entry_of weak key entry ≡ true). absurd (no_some entry.value_name (rw t at none)))
    (λ (f : is_entry_of weak key entry ≡ false). ⊎_elim
    (λ (p : test entry ≡ true). rw (p, f) (absent-filter test entries weak key (rw f at none)))
    (λ (q : test entry ≡ false). rw q (absent-filter test entries weak key (rw f at none)))
    (cases_Bool (test entry)))
    (cases_Bool (is_entry_of weak key entry))

-- of entries that pass a test, where the keys and values of these stay
pub AreSoundEntries-filter : (place later : FinMap nat_cmp ℕ) (test : WeakEntry → Bool) (entries : List WeakEntry) →
    ((entry : WeakEntry) → test entry ≡ true → is_some (get place entry.key_name) ≡ true → is_some (get later entry.key_name) ≡ true) →
    ((entry : WeakEntry) → test entry ≡ true → is_some (get place entry.value_name) ≡ true → is_some (get later entry.value_name) ≡ true) →
    AreSoundEntries place entries → AreSoundEntries later (filter test entries)
AreSoundEntries-filter place later test [] keys values h = tt
AreSoundEntries-filter place later test (entry ∷ entries) keys values h =
    let rest = AreSoundEntries-filter place later test entries keys values h.3 in
    ⊎_elim
    (λ (p : test entry ≡ true). rw p (
      keys entry p h.0,
      values entry p h.1,
      absent-filter test entries entry.map_name entry.key_name h.2,
      rest,
    ))
    (λ (q : test entry ≡ false). rw q rest)
    (cases_Bool (test entry))

-- after a verdict
pub AreSoundEntries-left : (place : FinMap nat_cmp ℕ) (taken : List ℕ) (entries : List WeakEntry) → AreSoundEntries place entries →
    AreSoundEntries (without place taken) (entries_left taken entries)
AreSoundEntries-left place taken entries h = AreSoundEntries-filter place (without place taken)
    (λ entry. not (is_member nat_eq taken entry.key_name) && not (is_member nat_eq taken entry.value_name))
    entries
    (λ entry p there. present-without place taken entry.key_name there (not-true _ (and_parts _ _ p).0))
    (λ entry p there. present-without place taken entry.value_name there (not-true _ (and_parts _ _ p).1))
    h

-- after an entry was taken away
pub AreSoundEntries-deleted : (place : FinMap nat_cmp ℕ) (entries : List WeakEntry) (weak : List ℕ) (key : ℕ) → AreSoundEntries place entries →
    AreSoundEntries place (without_weak_value entries weak key)
AreSoundEntries-deleted place entries weak key h =
    AreSoundEntries-filter place place (λ entry. not (is_entry_of weak key entry)) entries (λ entry p there. there) (λ entry p there. there) h

-- an entry of a map and a key
pub entry_parts : (weak : List ℕ) (key : ℕ) (entry : WeakEntry) → is_entry_of weak key entry ≡ true → (weak ≡ entry.map_name) × (key ≡ entry.key_name)
entry_parts weak key entry t =
    let both = and_parts _ _ t in
    ((bytes_eq-Decides weak entry.map_name).0 both.0, eqb-true key entry.key_name both.1)

-- an entry that doesn't belong to a map and a key is apart from them
pub apart_from : (weak : List ℕ) (key : ℕ) (entry : WeakEntry) → is_entry_of weak key entry ≡ false →
    (bytes_eq entry.map_name weak && nat_eq entry.key_name key) ≡ false
apart_from weak key entry f = false_from_ne_true _ (λ t.
    let both = and_parts _ _ t in
    let map_same : bytes_eq weak entry.map_name ≡ true =
    (bytes_eq-Decides weak entry.map_name).1 (sym ((bytes_eq-Decides entry.map_name weak).0 both.0)) in
    let key_same : nat_eq key entry.key_name ≡ true = eq-eqb key entry.key_name (sym (eqb-true entry.key_name key both.1)) in
    false≢true (sym f ∙ and_from _ _ map_same key_same))

-- a key without a value has none after another got one
absent-with : (entries : List WeakEntry) (weak : List ℕ) (key value : ℕ) (other : List ℕ) (name : ℕ) →
    (bytes_eq other weak && nat_eq name key) ≡ false → weak_value entries other name ≡ None →
    weak_value (with_weak_value entries weak key value) other name ≡ None
absent-with [] weak key value other name apart none = rw apart refl
absent-with (entry ∷ entries) weak key value other name apart none = ⊎_elim
    (λ (t : is_entry_of other name entry ≡ true). absurd (no_some entry.value_name (rw t at none)))
    (λ (f : is_entry_of other name entry ≡ false). after (absent-with entries weak key value other name apart) f (rw f at none))
    (cases_Bool (is_entry_of other name entry))
  where
    after : (weak_value entries other name ≡ None → weak_value (with_weak_value entries weak key value) other name ≡ None) →
        is_entry_of other name entry ≡ false → weak_value entries other name ≡ None →
        weak_value (with_weak_value (entry ∷ entries) weak key value) other name ≡ None
    after others f rest = ⊎_elim
        (λ (t : is_entry_of weak key entry ≡ true). rw (t, apart) rest)
        (λ (g : is_entry_of weak key entry ≡ false). rw (g, f) (others rest))
        (cases_Bool (is_entry_of weak key entry))

-- after a key got a value
pub AreSoundEntries-with : (place : FinMap nat_cmp ℕ) (entries : List WeakEntry) (weak : List ℕ) (key value : ℕ) →
    is_some (get place key) ≡ true → is_some (get place value) ≡ true → AreSoundEntries place entries →
    AreSoundEntries place (with_weak_value entries weak key value)
AreSoundEntries-with place [] weak key value k v h = (k, v, refl, tt)
AreSoundEntries-with place (entry ∷ entries) weak key value k v h = ⊎_elim
    (λ (t : is_entry_of weak key entry ≡ true).
    let same = entry_parts weak key entry t in
    rw t (k, v, rw (same.0, same.1) h.2, h.3))
    (λ (f : is_entry_of weak key entry ≡ false).
    rw f (h.0, h.1, absent-with entries weak key value entry.map_name entry.key_name (apart_from weak key entry f) h.2, AreSoundEntries-with place entries weak key value k v h.3))
    (cases_Bool (is_entry_of weak key entry))

-- the value of a key is present
pub weak_value-present : (place : FinMap nat_cmp ℕ) (entries : List WeakEntry) (weak : List ℕ) (key value : ℕ) →
    weak_value entries weak key ≡ Some value → AreSoundEntries place entries → is_some (get place value) ≡ true
weak_value-present place [] weak key value e h = absurd (cc)
weak_value-present place (entry ∷ entries) weak key value e h = ⊎_elim
    (λ (t : is_entry_of weak key entry ≡ true).
    let same : entry.value_name ≡ value = (let f = rw t at e in cc) in
    ap (λ n. is_some (get place n)) (sym same) ∙ h.1)
    (λ (f : is_entry_of weak key entry ≡ false). weak_value-present place entries weak key value (rw f at e) h.3)
    (cases_Bool (is_entry_of weak key entry))

-- so is the key
pub weak_key-present : (place : FinMap nat_cmp ℕ) (entries : List WeakEntry) (weak : List ℕ) (key value : ℕ) →
    weak_value entries weak key ≡ Some value → AreSoundEntries place entries → is_some (get place key) ≡ true
weak_key-present place [] weak key value e h = absurd (cc)
weak_key-present place (entry ∷ entries) weak key value e h = ⊎_elim
    (λ (t : is_entry_of weak key entry ≡ true). ap (λ n. is_some (get place n)) (entry_parts weak key entry t).1 ∙ h.0)
    (λ (f : is_entry_of weak key entry ≡ false). weak_key-present place entries weak key value (rw f at e) h.3)
    (cases_Bool (is_entry_of weak key entry))
