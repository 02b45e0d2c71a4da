-- The entries of the table and those of the model, which has names alone and may have another order: where each key of each map has the same
-- value in both, it has so after each change, and each map has as many entries in both.
use Rattle.std.proofs.Common.{◌≡◌, ℕ, ◌&&◌, not, Bool, true, false, nat_eq, if◌then◌else◌, List, [], ◌∷◌, map, filter, refl, sym, ap, ◌∙◌, arith, ⊎_elim, Option, None, Some}
use Rattle.std.specs.Prelude.{is_some}
use Rattle.std.specs.List.{IsDistinct, AllByRecursion}
use Rattle.std.specs.List.Sorted.{IsPermutation}
use Rattle.std.specs.Option.{option_map}
use Rattle.std.specs.Ordering.{nat_cmp}
use Rattle.std.specs.FinMap.{FinMap}
use Rattle.std.specs.Set.{is_member}
use Rattle.std.specs.Str.{bytes_eq}
use Rattle.std.proofs.lemmas.Bool.{cases_Bool, and_parts, and_from, not-true, eq-eqb, false_from_ne_true, false≢true}
use Rattle.std.proofs.lemmas.Cmp.{nat_list_eq_equiv, nat_eq_equiv}
use Rattle.std.proofs.lemmas.List.{length-map}
use Rattle.std.proofs.lemmas.Slice.Eq.{bytes_eq-Decides}
use Rattle.std.proofs.lemmas.Map.Keys.{IsDistinct-head, IsDistinct-tail}
use Rattle.std.proofs.lemmas.Map.Made.{length-le_from_is_member}
use Rattle.space_heap.specs.HeapView.{HeapView}
use Rattle.space_model.specs.Sound.{AreSoundEntries}
use Rattle.space_model.specs.State.{WeakEntry}
use Rattle.space_model.specs.WeakMaps.{weak_value, weak_size, with_weak_value, without_weak_value, entries_left}
use Rattle.space_model.proofs.EntryLaws.{set_read, deleted_gone, left_value, value_left, size_of_keys}
use Rattle.space_model.proofs.Growing.{IsDistinct-cons}
use Rattle.space_model.proofs.TablesKept.{absent-filter}
use Rattle.space_weak.specs.WeakEntries.{Entry, entry_with, is_at, entry_of, size_of, AreApart, with_entry, without_entry, is_live, purged, refixed_entry, refixed}
use Rattle.space_weak.proofs.EntryLemmas.{same_text, at_parts}
use Rattle.space_weak.proofs.EntryLaws.{entry_of-IsPermutation, AreApart-with_entry, AreApart-filter}

-- the name of the value of an entry, if there is one
abbrev pub value_of : Option Entry → Option ℕ
value_of found = option_map (λ entry. entry.value_name) found

-- each key of each map has the same value in both
abbrev pub HaveSameValues : List WeakEntry → List Entry → Type 0
HaveSameValues weak entries = (name : List ℕ) (key : ℕ) → weak_value weak name key ≡ value_of (entry_of entries name key)

-- one and the same, by map and key
abbrev are_same : List ℕ → ℕ → List ℕ → ℕ → Bool
are_same other name weak key = bytes_eq other weak && nat_eq name key

-- the table after one is set

-- its key has it, and all others have what they had
pub entry_set : (entries : List Entry) (new : Entry) (other : List ℕ) (name : ℕ) →
    entry_of (with_entry entries new) other name
    ≡ (if bytes_eq other new.map_name && nat_eq name new.key_name then Some new else entry_of entries other name)
entry_set [] new other name = refl
entry_set (entry ∷ entries) new other name =
    let rest = entry_set entries new other name in
    ⊎_elim
    (λ (t : is_at new.map_name new.key_name entry ≡ true).
    let of = at_parts new.map_name new.key_name entry t in
    ⊎_elim
    (λ (same : are_same other name new.map_name new.key_name ≡ true). rw (t, same) refl)
    (λ (apart : are_same other name new.map_name new.key_name ≡ false).
    let not_here : is_at other name entry ≡ false = rw (of.0, of.1) at apart in
    rw (t, apart, not_here) refl)
    (cases_Bool (are_same other name new.map_name new.key_name)))
    (λ (f : is_at new.map_name new.key_name entry ≡ false). ⊎_elim
    (λ (t : is_at other name entry ≡ true).
    let of = at_parts other name entry t in
    let apart : are_same other name new.map_name new.key_name ≡ false = turned new entry other name of.0 of.1 f in
    rw (f, t, apart) refl)
    (λ (g : is_at other name entry ≡ false). rw (f, g) rest)
    (cases_Bool (is_at other name entry)))
    (cases_Bool (is_at new.map_name new.key_name entry))
  where
    turned : (new entry : Entry) (other : List ℕ) (name : ℕ) → other ≡ entry.map_name → name ≡ entry.key_name →
        is_at new.map_name new.key_name entry ≡ false → are_same other name new.map_name new.key_name ≡ false
    turned new entry other name map_is key_is f = false_from_ne_true _ (λ same.
        let of : (other ≡ new.map_name) × (name ≡ new.key_name) = at_parts other name new same in
        let here = and_from _ _ ((bytes_eq-Decides new.map_name entry.map_name).1 (sym of.0 ∙ map_is))
        (eq-eqb new.key_name entry.key_name (sym of.1 ∙ key_is)) in
        false≢true (sym f ∙ here))

-- the table without some entries

-- what was found, where it passes the test
abbrev pub option_filter : (Entry → Bool) → Option Entry → Option Entry
option_filter p None = None
option_filter p (Some entry) = if p entry then Some entry else None

none_of : (entries : List Entry) (weak : List ℕ) (key : ℕ) → AllByRecursion (λ entry. is_at weak key entry ≡ false) entries →
    entry_of entries weak key ≡ None
none_of [] weak key h = refl
none_of (entry ∷ entries) weak key h = rw h.0 (none_of entries weak key h.1)

-- what is found belongs to the map and the key
pub found_at : (entries : List Entry) (weak : List ℕ) (key : ℕ) (entry : Entry) → entry_of entries weak key ≡ Some entry → is_at weak key entry ≡ true
found_at [] weak key entry e = absurd (cc)
found_at (first ∷ entries) weak key entry e = ⊎_elim
    (λ (t : is_at weak key first ≡ true). let same : first ≡ entry = (let f = rw t at e in cc) in ap (is_at weak key) (sym same) ∙ t)
    (λ (f : is_at weak key first ≡ false). found_at entries weak key entry (rw f at e))
    (cases_Bool (is_at weak key first))

-- what is found among those that pass a test
pub passed_of : (p : Entry → Bool) (entries : List Entry) (weak : List ℕ) (key : ℕ) → AreApart entries →
    entry_of (filter p entries) weak key ≡ option_filter p (entry_of entries weak key)
passed_of p [] weak key apart = refl
passed_of p (entry ∷ entries) weak key apart =
    let rest = passed_of p entries weak key (IsDistinct-tail _ entry entries apart) in
    ⊎_elim
    (λ (t : is_at weak key entry ≡ true).
    let of = at_parts weak key entry t in
    let none : entry_of entries weak key ≡ None =
    none_of entries weak key (rw (sym of.0, sym of.1) at (IsDistinct-head _ entry entries apart)) in
    ⊎_elim
    (λ (passes : p entry ≡ true). rw (passes, t) (rw passes refl))
    (λ (fails : p entry ≡ false). rw (fails, t) (rw fails (rest ∙ ap (option_filter p) none)))
    (cases_Bool (p entry)))
    (λ (f : is_at weak key entry ≡ false). ⊎_elim
    (λ (passes : p entry ≡ true). rw (passes, f) rest)
    (λ (fails : p entry ≡ false). rw (fails, f) rest)
    (cases_Bool (p entry)))
    (cases_Bool (is_at weak key entry))

-- an entry that is found among those that pass was found among all, and passes
pub found_passed : (p : Entry → Bool) (entries : List Entry) (weak : List ℕ) (key : ℕ) (entry : Entry) → AreApart entries →
    entry_of (filter p entries) weak key ≡ Some entry → (entry_of entries weak key ≡ Some entry) × (p entry ≡ true)
found_passed p entries weak key entry apart found =
    passed_one (entry_of entries weak key) refl (sym (passed_of p entries weak key apart) ∙ found)
  where
    passed_by : (b : Bool) (first : Entry) → p first ≡ b → (if b then Some first else None) ≡ Some entry → (first ≡ entry) × (p entry ≡ true)
    passed_by true first passes e = let same : first ≡ entry = cc in (same, ap p (sym same) ∙ passes)
    passed_by false first passes e = absurd (cc)

    passed_one : (was : Option Entry) → entry_of entries weak key ≡ was → option_filter p was ≡ Some entry →
        (entry_of entries weak key ≡ Some entry) × (p entry ≡ true)
    passed_one None was e = absurd (cc)
    passed_one (Some first) was e = let by = passed_by (p first) first refl e in (was ∙ ap Some by.0, by.1)

pub values_set : (weak : List WeakEntry) (old new : List Entry) (name : List ℕ) (key key_address value value_address : ℕ) → AreApart old →
    IsPermutation (with_entry old (entry_with name key key_address value value_address)) new → HaveSameValues weak old →
    HaveSameValues (with_weak_value weak name key value) new
values_set weak old new name key key_address value value_address apart same h = λ other k.
    let entry = entry_with name key key_address value value_address in
    let moved = entry_of-IsPermutation (with_entry old entry) new other k same (AreApart-with_entry old entry apart) in
    set_read weak name key value other k
    ∙ both_set (bytes_eq other name && nat_eq k key) entry value (weak_value weak other k) (entry_of old other k) refl (h other k)
    ∙ ap value_of (sym (moved ∙ entry_set old entry other k))
  where
    both_set : (b : Bool) (entry : Entry) (value : ℕ) (x : Option ℕ) (found : Option Entry) → entry.value_name ≡ value → x ≡ value_of found →
        (if b then Some value else x) ≡ value_of (if b then Some entry else found)
    both_set true entry value x found e h = ap Some (sym e)
    both_set false entry value x found e h = h

pub values_deleted : (weak : List WeakEntry) (old new : List Entry) (name : List ℕ) (key : ℕ) → AreApart old →
    IsPermutation (without_entry old name key) new → HaveSameValues weak old → HaveSameValues (without_weak_value weak name key) new
values_deleted weak old new name key apart same h = λ other k.
    let moved = entry_of-IsPermutation (without_entry old name key) new other k same (AreApart-filter _ old apart) in
    deleted_gone weak name key other k
    ∙ both_without other k (entry_of old other k) (weak_value weak other k) refl (h other k)
    ∙ ap value_of (sym (moved ∙ passed_of (λ entry. not (is_at name key entry)) old other k apart))
  where
    turned : (other : List ℕ) (k : ℕ) (entry : Entry) → is_at other k entry ≡ true → is_at name key entry ≡ (bytes_eq other name && nat_eq k key)
    turned other k entry t =
        let of = at_parts other k entry t in
        rw (← of.0, ← of.1, nat_list_eq_equiv.symm name other, nat_eq_equiv.symm key k) refl

    with_one : (entry : Entry) (b : Bool) (x : Option ℕ) → is_at name key entry ≡ b → x ≡ Some entry.value_name →
        (if b then None else x) ≡ value_of (option_filter (λ entry. not (is_at name key entry)) (Some entry))
    with_one entry true x is e = rw is refl
    with_one entry false x is e = rw is e

    with_none : (b : Bool) (x : Option ℕ) → x ≡ None → (if b then None else x) ≡ None
    with_none true x e = refl
    with_none false x e = e

    both_without : (other : List ℕ) (k : ℕ) (found : Option Entry) (x : Option ℕ) → entry_of old other k ≡ found → x ≡ value_of found →
        (if bytes_eq other name && nat_eq k key then None else x) ≡ value_of (option_filter (λ entry. not (is_at name key entry)) found)
    both_without other k None x f e = with_none (bytes_eq other name && nat_eq k key) x e
    both_without other k (Some entry) x f e =
        with_one entry (bytes_eq other name && nat_eq k key) x (turned other k entry (found_at old other k entry f)) e

-- after a verdict, where those entries are live of which neither the key nor the value was taken
pub values_purged : (place : FinMap nat_cmp ℕ) (heap : HeapView) (taken : List ℕ) (weak : List WeakEntry) (old : List Entry) →
    AreSoundEntries place weak → AreApart old → HaveSameValues weak old →
    ((name : List ℕ) (key : ℕ) (entry : Entry) → entry_of old name key ≡ Some entry →
    (is_live heap entry.key_address && is_live heap entry.value_address)
    ≡ (not (is_member nat_eq taken entry.key_name) && not (is_member nat_eq taken entry.value_name))) →
    HaveSameValues (entries_left taken weak) (purged heap old)
values_purged place heap taken weak old sound apart h lives = λ name key.
    both_left name key (entry_of old name key) refl (h name key)
    ∙ ap value_of (sym (passed_of (λ entry. is_live heap entry.key_address && is_live heap entry.value_address) old name key apart))
  where
    nothing : (name : List ℕ) (key : ℕ) (found : Option ℕ) → weak_value (entries_left taken weak) name key ≡ found →
        ((value : ℕ) → found ≡ Some value → ⊥) → found ≡ None
    nothing name key None e none = refl
    nothing name key (Some value) e none = absurd (none value refl)

    one_left : (name : List ℕ) (key : ℕ) (entry : Entry) (live : Bool) → weak_value weak name key ≡ Some entry.value_name → key ≡ entry.key_name →
        (is_live heap entry.key_address && is_live heap entry.value_address) ≡ live →
        (not (is_member nat_eq taken entry.key_name) && not (is_member nat_eq taken entry.value_name)) ≡ live →
        weak_value (entries_left taken weak) name key
        ≡ value_of (option_filter (λ entry. is_live heap entry.key_address && is_live heap entry.value_address) (Some entry))
    one_left name key entry true e key_is live stay =
        let both = and_parts _ _ stay in
        rw live (value_left taken weak name key entry.value_name e (ap (is_member nat_eq taken) key_is ∙ not-true _ both.0) (not-true _ both.1))
    one_left name key entry false e key_is live stay =
        rw live (nothing name key (weak_value (entries_left taken weak) name key) refl (λ value f.
        let left = left_value place taken weak name key value sound f in
        let same : entry.value_name ≡ value = (let both = sym e ∙ left.0 in cc) in
        false≢true (sym stay ∙ and_from _ _
        (ap not (ap (is_member nat_eq taken) (sym key_is) ∙ left.1))
        (ap not (ap (is_member nat_eq taken) same ∙ left.2)))))

    both_left : (name : List ℕ) (key : ℕ) (found : Option Entry) → entry_of old name key ≡ found → weak_value weak name key ≡ value_of found →
        weak_value (entries_left taken weak) name key
        ≡ value_of (option_filter (λ entry. is_live heap entry.key_address && is_live heap entry.value_address) found)
    both_left name key None f e = absent-filter _ weak name key e
    both_left name key (Some entry) f e =
        let of = at_parts name key entry (found_at old name key entry f) in
        one_left name key entry _ e of.1 (lives name key entry f) refl

-- after each address was brought up to date
entry_refixed : (heap : HeapView) (entries : List Entry) (weak : List ℕ) (key : ℕ) →
    entry_of (refixed heap entries) weak key ≡ option_map (refixed_entry heap) (entry_of entries weak key)
entry_refixed heap [] weak key = refl
entry_refixed heap (entry ∷ entries) weak key =
    let rest = entry_refixed heap entries weak key in
    ⊎_elim
    (λ (t : is_at weak key entry ≡ true). rw t refl)
    (λ (f : is_at weak key entry ≡ false). rw f rest)
    (cases_Bool (is_at weak key entry))

pub values_refixed : (heap : HeapView) (weak : List WeakEntry) (entries : List Entry) → HaveSameValues weak entries →
    HaveSameValues weak (refixed heap entries)
values_refixed heap weak entries h = λ name key.
    h name key ∙ value_stays (entry_of entries name key) ∙ ap value_of (sym (entry_refixed heap entries name key))
  where
    value_stays : (found : Option Entry) → value_of found ≡ value_of (option_map (refixed_entry heap) found)
    value_stays None = refl
    value_stays (Some entry) = refl

-- sizes

-- the keys of a map
abbrev keys_in : List Entry → List ℕ → List ℕ
keys_in entries weak = map (λ entry. entry.key_name) (filter (λ entry. bytes_eq weak entry.map_name) entries)

keys_have : (entries : List Entry) (weak : List ℕ) (key : ℕ) → is_member nat_eq (keys_in entries weak) key ≡ is_some (entry_of entries weak key)
keys_have [] weak key = refl
keys_have (entry ∷ entries) weak key =
    let rest = keys_have entries weak key in
    ⊎_elim
    (λ (m : bytes_eq weak entry.map_name ≡ true). ⊎_elim
    (λ (k : nat_eq key entry.key_name ≡ true). rw (m, k) refl)
    (λ (j : nat_eq key entry.key_name ≡ false). rw (m, j) rest)
    (cases_Bool (nat_eq key entry.key_name)))
    (λ (n : bytes_eq weak entry.map_name ≡ false). rw n rest)
    (cases_Bool (bytes_eq weak entry.map_name))

keys_once : (entries : List Entry) (weak : List ℕ) → AreApart entries → IsDistinct nat_eq (keys_in entries weak)
unfolding IsDistinct
keys_once [] weak apart = tt
keys_once (entry ∷ entries) weak apart =
    let rest = keys_once entries weak (IsDistinct-tail _ entry entries apart) in
    ⊎_elim
    (λ (m : bytes_eq weak entry.map_name ≡ true).
    let none : entry_of entries weak entry.key_name ≡ None =
    none_of entries weak entry.key_name (rw (sym (same_text weak entry.map_name m)) at (IsDistinct-head _ entry entries apart)) in
    rw m (IsDistinct-cons entry.key_name (keys_in entries weak) rest (keys_have entries weak entry.key_name ∙ ap is_some none)))
    (λ (n : bytes_eq weak entry.map_name ≡ false). rw n rest)
    (cases_Bool (bytes_eq weak entry.map_name))

some_value : (found : Option Entry) → is_some (value_of found) ≡ is_some found
some_value None = refl
some_value (Some entry) = refl

-- a map has as many entries in both
pub sizes_same : (place : FinMap nat_cmp ℕ) (weak : List WeakEntry) (entries : List Entry) (name : List ℕ) → AreSoundEntries place weak → AreApart entries →
    HaveSameValues weak entries → weak_size weak name ≡ size_of entries name
sizes_same place weak entries name sound apart h =
    let counted = size_of_keys place weak name sound in
    let both : (key : ℕ) → is_some (weak_value weak name key) ≡ is_member nat_eq (keys_in entries name) key =
    λ key. ap is_some (h name key) ∙ some_value (entry_of entries name key) ∙ sym (keys_have entries name key) in
    let few = length-le_from_is_member nat_eq_equiv counted.names (keys_in entries name) counted.once (λ key m. sym (both key) ∙ (counted.are key).0 m) in
    let many = length-le_from_is_member nat_eq_equiv (keys_in entries name) counted.names (keys_once entries name apart)
    (λ key m. (counted.are key).1 (both key ∙ m)) in
    let long = counted.long in
    let keys = length-map (filter (λ (entry : Entry). bytes_eq name entry.map_name) entries) (λ entry. entry.key_name) in
    omega (arith, few, many, long, keys)
