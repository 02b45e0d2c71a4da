-- Laws of lists of entries in any order, for those who hold such a list beside one of their own.
use Rattle.std.proofs.Common.{◌≡◌, ℕ, zero, suc, ◌<◌, Bool, false, List, [], ◌∷◌, ◌++◌, length, filter, slice_get, set, get_or, append_assoc}
use Rattle.std.proofs.Common.{Option, None, Some, ⊎_elim, arith, refl, sym, ap, ◌∙◌}
use Rattle.std.proofs.lemmas.Bool.{cases_Bool}
use Rattle.std.proofs.lemmas.Cmp.{nat_list_eq_equiv, nat_eq_equiv}
use Rattle.std.proofs.lemmas.List.Elements.{filter-append, Contains-push}
use Rattle.std.proofs.lemmas.List.Sorted.{IsPermutation-refl, IsPermutation-cons, IsPermutation-trans, IsPermutation-append_left, IsPermutation-append_right}
use Rattle.std.proofs.lemmas.List.Sorted.{IsPermutation-append_comm}
use Rattle.std.proofs.lemmas.List.Sorted.{IsPermutation-keeps, IsPermutation-sym, Contains-permutation, length_permutation}
use Rattle.std.proofs.lemmas.Map.Keys.{IsDistinct-cons, IsDistinct-head, IsDistinct-tail, IsDistinct-IsPermutation}
use Rattle.std.proofs.lemmas.Option.{same_Some, slice_get-get_or}
use Rattle.std.specs.List.{swap, AllByRecursion}
use Rattle.std.specs.Option.{option_to_list}
use Rattle.std.specs.List.Sorted.{IsPermutation}
use Rattle.std.specs.Str.{bytes_eq}
use Rattle.space_weak.specs.WeakEntries.{Entry, entry_of, size_of, is_at, with_entry, without_entry, AreApart}
use Rattle.space_weak.proofs.EntryLemmas.{at_parts}

-- two lists in front of a third may change places
fronts_swapped : {X : Type 0} (us vs ws : List X) → IsPermutation (us ++ (vs ++ ws)) (vs ++ (us ++ ws))
fronts_swapped us vs ws =
    rw (← append_assoc us vs ws, ← append_assoc vs us ws) (IsPermutation-append_left ws (us ++ vs) (vs ++ us) (IsPermutation-append_comm us vs))

module _ {X : Type 0} (p : X → Bool) where
  front : (x : X) (xs : List X) → filter p (x ∷ xs) ≡ filter p (x ∷ []) ++ filter p xs
  front x xs = filter-append p (x ∷ []) xs

  -- an item that comes in the place of another
  replaced : (xs : List X) (i : ℕ) (old new : X) → slice_get xs i ≡ Some old → IsPermutation (filter p (new ∷ xs)) (filter p (old ∷ set xs i new))
  replaced [] i old new at = absurd (cc)
  replaced (x ∷ xs) zero old new at =
      rw (← same_Some x old at, front new (x ∷ xs), front x xs, front x (new ∷ xs), front new xs)
      (fronts_swapped (filter p (new ∷ [])) (filter p (x ∷ [])) (filter p xs))
  replaced (x ∷ xs) (suc i) old new at =
      let later = replaced xs i old new at in
      rw (front new (x ∷ xs), front x xs, front old (x ∷ set xs i new), front x (set xs i new))
      (IsPermutation-trans _ _ _ (fronts_swapped (filter p (new ∷ [])) (filter p (x ∷ [])) (filter p xs))
      (IsPermutation-trans _ _ _ (IsPermutation-append_right (filter p (x ∷ [])) _ _ (rw (front new xs, front old (set xs i new)) at later))
      (fronts_swapped (filter p (x ∷ [])) (filter p (old ∷ [])) (filter p (set xs i new)))))

  exchanged : (xs : List X) (i j : ℕ) (x y : X) → slice_get xs i ≡ Some x → slice_get xs j ≡ Some y
      → IsPermutation (filter p xs) (filter p (set (set xs i y) j x))
  exchanged [] i j x y h k = absurd (cc)
  exchanged (z ∷ xs) zero zero x y h k = rw (same_Some z x h) (IsPermutation-refl _)
  exchanged (z ∷ xs) zero (suc j) x y h k = rw (← same_Some z x h) (replaced xs j y z k)
  exchanged (z ∷ xs) (suc i) zero x y h k = rw (← same_Some z y k) (replaced xs i x z h)
  exchanged (z ∷ xs) (suc i) (suc j) x y h k =
      rw (front z xs, front z (set (set xs i y) j x)) (IsPermutation-append_right (filter p (z ∷ [])) _ _ (exchanged xs i j x y h k))

  swapped : (xs : List X) (i j : ℕ) → i < length xs → j < length xs → IsPermutation (filter p xs) (filter p (swap xs i j))
  swapped [] i j h k = IsPermutation-refl []
  swapped (x ∷ xs) i j h k =
      exchanged (x ∷ xs) i j (get_or (x ∷ xs) i x) (get_or (x ∷ xs) j x) (slice_get-get_or (x ∷ xs) i x h) (slice_get-get_or (x ∷ xs) j x k)

  -- of two lists with the same items the same items pass a test
  pub IsPermutation-filter : (xs ys : List X) → IsPermutation xs ys → IsPermutation (filter p xs) (filter p ys)
  IsPermutation-filter xs ys same =
      IsPermutation-keeps xs (λ zs. IsPermutation (filter p xs) (filter p zs)) (IsPermutation-refl (filter p xs))
      (λ zs i j h k so. IsPermutation-trans _ _ _ so (swapped zs i j h k)) ys same

-- a map has as many entries in any order
pub size_of-IsPermutation : (xs ys : List Entry) (weak : List ℕ) → IsPermutation xs ys → size_of ys weak ≡ size_of xs weak
size_of-IsPermutation xs ys weak same = length_permutation _ _ (IsPermutation-filter (λ entry. bytes_eq weak entry.map_name) xs ys same)

-- no two entries belong together in any order
pub AreApart-IsPermutation : (xs ys : List Entry) → IsPermutation xs ys → AreApart xs → AreApart ys
AreApart-IsPermutation xs ys same apart =
    IsDistinct-IsPermutation (λ one other. is_at one.map_name one.key_name other)
    (λ x y. rw (nat_list_eq_equiv.symm x.map_name y.map_name, nat_eq_equiv.symm x.key_name y.key_name) refl) xs ys same apart

none_pass : (entries : List Entry) (test other : Entry → Bool) → ((entry : Entry) → test entry ≡ other entry)
    → AllByRecursion (λ entry. other entry ≡ false) entries
    → filter test entries ≡ []
none_pass [] test other same h = refl
none_pass (entry ∷ entries) test other same h = rw (same entry ∙ h.0) (none_pass entries test other same h.1)

-- at most one entry belongs to a key, and it is the first that does
one_at : (entries : List Entry) (weak : List ℕ) (key : ℕ) → AreApart entries → filter (is_at weak key) entries ≡ option_to_list (entry_of entries weak key)
one_at [] weak key apart = refl
one_at (entry ∷ entries) weak key apart =
    let head = IsDistinct-head _ entry entries apart in
    ⊎_elim
    (λ t.
    let both = at_parts weak key entry t in
    rw t (ap (λ rest. entry ∷ rest) (none_pass entries (is_at weak key) (is_at entry.map_name entry.key_name) (λ other. rw (both.0, both.1) refl) head)))
    (λ f. rw f (one_at entries weak key (IsDistinct-tail _ entry entries apart)))
    (cases_Bool (is_at weak key entry))

first_of : {X : Type 0} (o : Option X) → slice_get (option_to_list o) 0 ≡ o
first_of None = refl
first_of (Some x) = refl

only_item : {X : Type 0} (x y : X) (k : ℕ) → k < 1 → get_or (x ∷ []) k y ≡ y → y ≡ x
only_item x y zero h at = sym at
only_item x y (suc k) h at = absurd (omega arith)

one_item : {X : Type 0} (o : Option X) (ys : List X) → IsPermutation (option_to_list o) ys → ys ≡ option_to_list o
one_item None [] same = refl
one_item None (y ∷ ys) same = let e = length_permutation [] (y ∷ ys) same in absurd (omega arith)
one_item (Some x) [] same = let e = length_permutation (x ∷ []) [] same in absurd (omega arith)
one_item (Some x) (y ∷ []) same =
    let there = Contains-permutation (y ∷ []) (x ∷ []) y (IsPermutation-sym (x ∷ []) (y ∷ []) same) (Contains-push [] y) in
    ap (λ item. item ∷ []) (only_item x y there.0 there.1 there.2)
one_item (Some x) (y ∷ z ∷ ys) same = let e = length_permutation (x ∷ []) (y ∷ z ∷ ys) same in absurd (omega arith)

-- a key has the same entry in any order
pub entry_of-IsPermutation : (xs ys : List Entry) (weak : List ℕ) (key : ℕ) → IsPermutation xs ys → AreApart xs → entry_of ys weak key ≡ entry_of xs weak key
entry_of-IsPermutation xs ys weak key same apart =
    let passed = IsPermutation-filter (is_at weak key) xs ys same in
    let of_xs = one_at xs weak key apart in
    let of_ys = one_at ys weak key (AreApart-IsPermutation xs ys same apart) in
    let lists : option_to_list (entry_of ys weak key) ≡ option_to_list (entry_of xs weak key) = one_item _ _ (rw (of_xs, of_ys) at passed) in
    sym (first_of (entry_of ys weak key)) ∙ ap (λ entries. slice_get entries 0) lists ∙ first_of (entry_of xs weak key)

all_pass : {X : Type 0} (p q : X → Bool) (xs : List X) → AllByRecursion (λ x. q x ≡ false) xs → AllByRecursion (λ x. q x ≡ false) (filter p xs)
all_pass p q [] h = tt
all_pass p q (x ∷ xs) h = ⊎_elim (λ t. rw t (h.0, all_pass p q xs h.1)) (λ f. rw f (all_pass p q xs h.1)) (cases_Bool (p x))

-- no two entries belong together among those that pass a test
pub AreApart-filter : (p : Entry → Bool) (xs : List Entry) → AreApart xs → AreApart (filter p xs)
AreApart-filter p [] apart = apart
AreApart-filter p (x ∷ xs) apart =
    let rest = AreApart-filter p xs (IsDistinct-tail _ x xs apart) in
    ⊎_elim
    (λ t. rw t (IsDistinct-cons _ x (filter p xs) (all_pass p (is_at x.map_name x.key_name) xs (IsDistinct-head _ x xs apart)) rest))
    (λ f. rw f rest)
    (cases_Bool (p x))

all_kept : (xs : List Entry) (weak : List ℕ) (key : ℕ) → AllByRecursion (λ x. is_at weak key x ≡ false) xs → without_entry xs weak key ≡ xs
all_kept [] weak key h = refl
all_kept (x ∷ xs) weak key h = rw h.0 (ap (λ rest. x ∷ rest) (all_kept xs weak key h.1))

-- an entry that is set comes to those of the other keys
pub with_entry-IsPermutation : (xs : List Entry) (new : Entry) → AreApart xs → IsPermutation (with_entry xs new) (new ∷ without_entry xs new.map_name new.key_name)
with_entry-IsPermutation [] new apart = IsPermutation-refl (new ∷ [])
with_entry-IsPermutation (x ∷ xs) new apart = ⊎_elim
    (λ t.
    let both = at_parts new.map_name new.key_name x t in
    let rest = all_kept xs new.map_name new.key_name (rw (both.0, both.1) (IsDistinct-head _ x xs apart)) in
    rw t (rw rest (IsPermutation-refl (new ∷ xs))))
    (λ f.
    let rest = with_entry-IsPermutation xs new (IsDistinct-tail _ x xs apart) in
    rw f (IsPermutation-trans _ _ _ (IsPermutation-cons x _ _ rest) (fronts_swapped (x ∷ []) (new ∷ []) (without_entry xs new.map_name new.key_name))))
    (cases_Bool (is_at new.map_name new.key_name x))

none_left_at : (xs : List Entry) (weak : List ℕ) (key : ℕ) → AllByRecursion (λ x. is_at weak key x ≡ false) (without_entry xs weak key)
none_left_at [] weak key = tt
none_left_at (x ∷ xs) weak key = ⊎_elim
    (λ t. rw t (none_left_at xs weak key))
    (λ f. rw f (f, none_left_at xs weak key))
    (cases_Bool (is_at weak key x))

-- and no two entries belong together then
pub AreApart-with_entry : (xs : List Entry) (new : Entry) → AreApart xs → AreApart (with_entry xs new)
AreApart-with_entry xs new apart =
    let others = without_entry xs new.map_name new.key_name in
    AreApart-IsPermutation (new ∷ others) (with_entry xs new) (IsPermutation-sym _ _ (with_entry-IsPermutation xs new apart))
    (IsDistinct-cons _ new others (none_left_at xs new.map_name new.key_name) (AreApart-filter _ xs apart))
