-- Labels of names in lists of pairs, and the names of such lists.
use Rattle.std.proofs.Common.{◌≡◌, ◌⊎◌, ℕ, zero, suc, not, Bool, true, false, if◌then◌else◌, List, [], ◌∷◌, ◌++◌, take, drop, nat_eq, refl, sym, ap, ◌∙◌, ⊎_elim}
use Rattle.std.specs.List.{filter, IsDistinct, AllByRecursion}
use Rattle.std.specs.Set.{is_member}
use Rattle.std.proofs.lemmas.Bool.{cases_Bool, or_cases, or_left, or_right, or_from, eqb-true, eq-eqb, false≢true, not-true}
use Rattle.std.proofs.lemmas.List.{append-nil, map-append}
use Rattle.std.proofs.lemmas.Map.Keys.{IsDistinct-head, IsDistinct-tail}
use Rattle.space_model.specs.Finalizers.{labels_of, pairs_of, pair_names, without_name, without_names, pairs_of_names}
use Rattle.space_model.proofs.Members.{member_left, member_right, member_cases}

-- labels

-- the labels of a name in two lists, one after the other
pub labels_of-append : (xs ys : List (ℕ × List ℕ)) (n : ℕ) → labels_of (xs ++ ys) n ≡ labels_of xs n ++ labels_of ys n
labels_of-append [] ys n = refl
labels_of-append (x ∷ xs) ys n = ⊎_elim
    (λ t. rw t (ap (λ rest. x.1 ∷ rest) (labels_of-append xs ys n)))
    (λ f. rw f (labels_of-append xs ys n))
    (cases_Bool (nat_eq n x.0))

-- the pairs of a name have its labels
pub labels_of-pairs_of_same : (m : ℕ) (labels : List (List ℕ)) (n : ℕ) → nat_eq n m ≡ true → labels_of (pairs_of m labels) n ≡ labels
labels_of-pairs_of_same m [] n same = refl
labels_of-pairs_of_same m (label ∷ labels) n same = rw same (ap (λ rest. label ∷ rest) (labels_of-pairs_of_same m labels n same))

-- and none of another name
pub labels_of-pairs_of_other : (m : ℕ) (labels : List (List ℕ)) (n : ℕ) → nat_eq n m ≡ false → labels_of (pairs_of m labels) n ≡ []
labels_of-pairs_of_other m [] n other = refl
labels_of-pairs_of_other m (label ∷ labels) n other = rw other (labels_of-pairs_of_other m labels n other)

-- a filter by names takes all labels of a name, or none
labels_of-kept : (test : ℕ → Bool) (pairs : List (ℕ × List ℕ)) (n : ℕ) → test n ≡ true → labels_of (filter (λ (pair : ℕ × List ℕ). test pair.0) pairs) n ≡ labels_of pairs n
labels_of-kept test [] n keeps = refl
labels_of-kept test (pair ∷ pairs) n keeps = ⊎_elim
    (λ (t : test pair.0 ≡ true). ⊎_elim
    (λ (same : nat_eq n pair.0 ≡ true). rw (t, same) (ap (λ rest. pair.1 ∷ rest) (labels_of-kept test pairs n keeps)))
    (λ (other : nat_eq n pair.0 ≡ false). rw (t, other) (labels_of-kept test pairs n keeps))
    (cases_Bool (nat_eq n pair.0)))
    (λ (f : test pair.0 ≡ false). ⊎_elim
    (λ (same : nat_eq n pair.0 ≡ true). absurd (false≢true (sym f ∙ ap test (sym (eqb-true n pair.0 same)) ∙ keeps)))
    (λ (other : nat_eq n pair.0 ≡ false). rw (f, other) (labels_of-kept test pairs n keeps))
    (cases_Bool (nat_eq n pair.0)))
    (cases_Bool (test pair.0))

labels_of-left_out : (test : ℕ → Bool) (pairs : List (ℕ × List ℕ)) (n : ℕ) → test n ≡ false → labels_of (filter (λ (pair : ℕ × List ℕ). test pair.0) pairs) n ≡ []
labels_of-left_out test [] n leaves = refl
labels_of-left_out test (pair ∷ pairs) n leaves = ⊎_elim
    (λ (t : test pair.0 ≡ true). ⊎_elim
    (λ (same : nat_eq n pair.0 ≡ true). absurd (false≢true (sym leaves ∙ ap test (eqb-true n pair.0 same) ∙ t)))
    (λ (other : nat_eq n pair.0 ≡ false). rw (t, other) (labels_of-left_out test pairs n leaves))
    (cases_Bool (nat_eq n pair.0)))
    (λ (f : test pair.0 ≡ false). rw f (labels_of-left_out test pairs n leaves))
    (cases_Bool (test pair.0))

-- without some names, these have no label, and each other has its own
pub labels_of-without_names : (pairs : List (ℕ × List ℕ)) (names : List ℕ) (n : ℕ) →
    labels_of (without_names pairs names) n ≡ (if is_member nat_eq names n then [] else labels_of pairs n)
labels_of-without_names pairs names n = ⊎_elim
    (λ (t : is_member nat_eq names n ≡ true). labels_of-left_out (λ m. not (is_member nat_eq names m)) pairs n (ap not t) ∙ rw t refl)
    (λ (f : is_member nat_eq names n ≡ false). labels_of-kept (λ m. not (is_member nat_eq names m)) pairs n (ap not f) ∙ rw f refl)
    (cases_Bool (is_member nat_eq names n))

-- without a name, that name has no label, and each other has its own
pub labels_of-without_name : (pairs : List (ℕ × List ℕ)) (name n : ℕ) →
    labels_of (without_name pairs name) n ≡ (if nat_eq name n then [] else labels_of pairs n)
labels_of-without_name pairs name n = ⊎_elim
    (λ (t : nat_eq name n ≡ true). labels_of-left_out (λ m. not (nat_eq name m)) pairs n (ap not t) ∙ rw t refl)
    (λ (f : nat_eq name n ≡ false). labels_of-kept (λ m. not (nat_eq name m)) pairs n (ap not f) ∙ rw f refl)
    (cases_Bool (nat_eq name n))

-- the first of names that are there once isn't among the others
pub head_apart : (name : ℕ) (names : List ℕ) → IsDistinct nat_eq (name ∷ names) → is_member nat_eq names name ≡ false
head_apart name names once = none_among name names (IsDistinct-head nat_eq name names once)
  where
    none_among : (name : ℕ) (names : List ℕ) → AllByRecursion (λ other. nat_eq name other ≡ false) names → is_member nat_eq names name ≡ false
    none_among name [] h = refl
    none_among name (other ∷ names) h = or_from _ _ h.0 (none_among name names h.1)

-- the pairs of some names have their labels, and none of others
pub labels_of-pairs_of_names : (pairs : List (ℕ × List ℕ)) (names : List ℕ) (n : ℕ) → IsDistinct nat_eq names →
    labels_of (pairs_of_names pairs names) n ≡ (if is_member nat_eq names n then labels_of pairs n else [])
labels_of-pairs_of_names pairs [] n once = refl
labels_of-pairs_of_names pairs (name ∷ names) n once =
    let rest = labels_of-pairs_of_names pairs names n (IsDistinct-tail nat_eq name names once) in
    labels_of-append (pairs_of name (labels_of pairs name)) (pairs_of_names pairs names) n
    ∙ ⊎_elim
    (λ (t : nat_eq n name ≡ true).
    let same : n ≡ name = eqb-true n name t in
    let out : is_member nat_eq names n ≡ false = ap (is_member nat_eq names) same ∙ head_apart name names once in
    rw (labels_of-pairs_of_same name (labels_of pairs name) n t, rest, out, t)
    (append-nil (labels_of pairs name) ∙ ap (labels_of pairs) (sym same)))
    (λ (f : nat_eq n name ≡ false). rw (labels_of-pairs_of_other name (labels_of pairs name) n f, rest, f) refl)
    (cases_Bool (nat_eq n name))

-- together they are the labels that there were
pub labels_parted : (pairs : List (ℕ × List ℕ)) (names : List ℕ) (n : ℕ) → IsDistinct nat_eq names →
    labels_of (pairs_of_names pairs names) n ++ labels_of (without_names pairs names) n ≡ labels_of pairs n
labels_parted pairs names n once = ⊎_elim
    (λ (t : is_member nat_eq names n ≡ true).
    rw (labels_of-pairs_of_names pairs names n once, labels_of-without_names pairs names n, t) (append-nil (labels_of pairs n)))
    (λ (f : is_member nat_eq names n ≡ false).
    rw (labels_of-pairs_of_names pairs names n once, labels_of-without_names pairs names n, f) refl)
    (cases_Bool (is_member nat_eq names n))

-- names

pub names-append : (xs ys : List (ℕ × List ℕ)) → pair_names (xs ++ ys) ≡ pair_names xs ++ pair_names ys
names-append xs ys = map-append (λ (pair : ℕ × List ℕ). pair.0) xs ys

-- a name of two lists is of one of them
pub names-cases : (xs ys : List (ℕ × List ℕ)) (n : ℕ) → is_member nat_eq (pair_names (xs ++ ys)) n ≡ true →
    (is_member nat_eq (pair_names xs) n ≡ true) ⊎ (is_member nat_eq (pair_names ys) n ≡ true)
names-cases xs ys n m = member_cases (pair_names xs) (pair_names ys) n (ap (λ names. is_member nat_eq names n) (sym (names-append xs ys)) ∙ m)

pub names-left : (xs ys : List (ℕ × List ℕ)) (n : ℕ) → is_member nat_eq (pair_names xs) n ≡ true → is_member nat_eq (pair_names (xs ++ ys)) n ≡ true
names-left xs ys n m = ap (λ names. is_member nat_eq names n) (names-append xs ys) ∙ member_left (pair_names xs) (pair_names ys) n m

pub names-right : (xs ys : List (ℕ × List ℕ)) (n : ℕ) → is_member nat_eq (pair_names ys) n ≡ true → is_member nat_eq (pair_names (xs ++ ys)) n ≡ true
names-right xs ys n m = ap (λ names. is_member nat_eq names n) (names-append xs ys) ∙ member_right (pair_names xs) (pair_names ys) n m

-- a name of pairs that pass a test by names is of all, and passes
names-filter : (test : ℕ → Bool) (pairs : List (ℕ × List ℕ)) (n : ℕ) →
    is_member nat_eq (pair_names (filter (λ (pair : ℕ × List ℕ). test pair.0) pairs)) n ≡ true → (is_member nat_eq (pair_names pairs) n ≡ true) × (test n ≡ true)
names-filter test [] n m = absurd (false≢true m)
names-filter test (pair ∷ pairs) n m = ⊎_elim
    (λ (t : test pair.0 ≡ true). ⊎_elim
    (λ same. (or_left _ _ same, ap test (eqb-true n pair.0 same) ∙ t))
    (λ among. let both = names-filter test pairs n among in (or_right (nat_eq n pair.0) _ both.0, both.1))
    (or_cases _ _ (rw t at m)))
    (λ (f : test pair.0 ≡ false). let both = names-filter test pairs n (rw f at m) in (or_right (nat_eq n pair.0) _ both.0, both.1))
    (cases_Bool (test pair.0))

pub names-without_names : (pairs : List (ℕ × List ℕ)) (names : List ℕ) (n : ℕ) → is_member nat_eq (pair_names (without_names pairs names)) n ≡ true →
    (is_member nat_eq (pair_names pairs) n ≡ true) × (is_member nat_eq names n ≡ false)
names-without_names pairs names n m =
    let both = names-filter (λ m. not (is_member nat_eq names m)) pairs n m in (both.0, not-true (is_member nat_eq names n) both.1)

pub names-without_name : (pairs : List (ℕ × List ℕ)) (name n : ℕ) → is_member nat_eq (pair_names (without_name pairs name)) n ≡ true →
    is_member nat_eq (pair_names pairs) n ≡ true
names-without_name pairs name n m = (names-filter (λ m. not (nat_eq name m)) pairs n m).0

names-pairs_of : (name : ℕ) (labels : List (List ℕ)) (n : ℕ) → is_member nat_eq (pair_names (pairs_of name labels)) n ≡ true → nat_eq n name ≡ true
names-pairs_of name [] n m = absurd (false≢true m)
names-pairs_of name (label ∷ labels) n m = ⊎_elim (λ same. same) (λ among. names-pairs_of name labels n among) (or_cases _ _ m)

-- the pairs of some names are of these alone
pub names-pairs_of_names : (pairs : List (ℕ × List ℕ)) (names : List ℕ) (n : ℕ) → is_member nat_eq (pair_names (pairs_of_names pairs names)) n ≡ true →
    is_member nat_eq names n ≡ true
names-pairs_of_names pairs [] n m = absurd (false≢true m)
names-pairs_of_names pairs (name ∷ names) n m = ⊎_elim
    (λ first. or_left _ _ (names-pairs_of name (labels_of pairs name) n first))
    (λ others. or_right (nat_eq n name) _ (names-pairs_of_names pairs names n others))
    (names-cases (pairs_of name (labels_of pairs name)) (pairs_of_names pairs names) n m)

-- the first of a list, and what is left
pub names-take : (count : ℕ) (pairs : List (ℕ × List ℕ)) (n : ℕ) → is_member nat_eq (pair_names (take count pairs)) n ≡ true →
    is_member nat_eq (pair_names pairs) n ≡ true
names-take zero pairs n m = absurd (false≢true m)
names-take (suc count) [] n m = m
names-take (suc count) (pair ∷ pairs) n m = ⊎_elim
    (λ same. or_left _ _ same)
    (λ among. or_right (nat_eq n pair.0) _ (names-take count pairs n among))
    (or_cases _ _ m)

pub names-drop : (count : ℕ) (pairs : List (ℕ × List ℕ)) (n : ℕ) → is_member nat_eq (pair_names (drop count pairs)) n ≡ true →
    is_member nat_eq (pair_names pairs) n ≡ true
names-drop zero pairs n m = m
names-drop (suc count) [] n m = m
names-drop (suc count) (pair ∷ pairs) n m = or_right (nat_eq n pair.0) _ (names-drop count pairs n m)

-- pairs without a name are none
pub none_named : (pairs : List (ℕ × List ℕ)) → ((n : ℕ) → is_member nat_eq (pair_names pairs) n ≡ true → ⊥) → pairs ≡ []
none_named [] h = refl
none_named (pair ∷ pairs) h = absurd (h pair.0 (or_left _ _ (eq-eqb pair.0 pair.0 refl)))
