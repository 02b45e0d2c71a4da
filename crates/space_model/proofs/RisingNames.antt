-- Names in ascending order of their addresses.
use Rattle.std.proofs.Common.{◌≡◌, ℕ, zero, suc, ◌<◌, nat_lt, if◌then◌else◌, ◌||◌, Bool, true, false, List, [], ◌∷◌, ◌++◌, map, length, nat_eq, get_or, refl, sym, ap, ◌∙◌, arith, ⊎_elim}
use Rattle.std.specs.List.{AllPairs}
use Rattle.std.specs.Set.{is_member}
use Rattle.std.specs.Ordering.{nat_cmp}
use Rattle.std.specs.FinMap.{FinMap}
use Rattle.std.proofs.lemmas.Bool.{cases_Bool, or_left, or_right, eq-eqb}
use Rattle.std.proofs.lemmas.Bool.Decides.{nat_tests}
use Rattle.std.proofs.lemmas.List.{get_or-map, length-map}
use Rattle.std.proofs.lemmas.List.Quantifiers.{all_pairs_push}
use Rattle.space_model.specs.Maps.{address_in, IsRising}

-- names whose addresses are ascending
pub IsRising-from_addresses : (m : FinMap nat_cmp ℕ) (names addresses : List ℕ) → map (address_in m) names ≡ addresses → AllPairs (λ x y. x < y) addresses →
    IsRising m names
IsRising-from_addresses m names addresses e h = λ i j d lt on.
    let long = length-map names (address_in m) in
    let same : length (map (address_in m) names) ≡ length addresses = ap length e in
    let x = get_or-map (address_in m) names i d 0 (omega arith) in
    let y = get_or-map (address_in m) names j d 0 on in
    let p : get_or (map (address_in m) names) i 0 ≡ get_or addresses i 0 = ap (λ xs. get_or xs i 0) e in
    let q : get_or (map (address_in m) names) j 0 ≡ get_or addresses j 0 = ap (λ xs. get_or xs j 0) e in
    let k = h i j 0 lt (omega arith) in
    omega arith

-- one more name, with an address above the others
pub IsRising-push : (m : FinMap nat_cmp ℕ) (names : List ℕ) (name : ℕ) → IsRising m names →
    ((k d : ℕ) → k < length names → address_in m (get_or names k d) < address_in m name) → IsRising m (names ++ name ∷ [])
IsRising-push m names name h above = all_pairs_push (λ x y. address_in m x < address_in m y) names name h above

-- the name at its place among the others, unless a name stands at its address
abbrev put : FinMap nat_cmp ℕ → ℕ → List ℕ → List ℕ
put m name [] = name ∷ []
put m name (x ∷ xs) =
    if nat_lt (address_in m x) (address_in m name) then x ∷ put m name xs
    else if nat_lt (address_in m name) (address_in m x) then name ∷ x ∷ xs
    else x ∷ xs

-- the names in ascending order
abbrev pub rising_names : FinMap nat_cmp ℕ → List ℕ → List ℕ
rising_names m [] = []
rising_names m (name ∷ names) = put m name (rising_names m names)

abbrev AreAbove : FinMap nat_cmp ℕ → ℕ → List ℕ → Type 0
AreAbove m a [] = Unit {0}
AreAbove m a (x ∷ xs) = (a < address_in m x) × AreAbove m a xs

abbrev Rise : FinMap nat_cmp ℕ → List ℕ → Type 0
Rise m [] = Unit {0}
Rise m (x ∷ xs) = AreAbove m (address_in m x) xs × Rise m xs

above_put : (m : FinMap nat_cmp ℕ) (a name : ℕ) (xs : List ℕ) → a < address_in m name → AreAbove m a xs → AreAbove m a (put m name xs)
above_put m a name [] lt h = (lt, tt)
above_put m a name (x ∷ xs) lt h = ⊎_elim
    (λ t. rw t (h.0, above_put m a name xs lt h.1))
    (λ f. ⊎_elim (λ t. rw f (rw t (lt, h))) (λ g. rw f (rw g h)) (cases_Bool (nat_lt (address_in m name) (address_in m x))))
    (cases_Bool (nat_lt (address_in m x) (address_in m name)))

above_more : (m : FinMap nat_cmp ℕ) (a b : ℕ) (xs : List ℕ) → a < b → AreAbove m b xs → AreAbove m a xs
above_more m a b [] lt h = tt
above_more m a b (x ∷ xs) lt h = (let k = h.0 in omega arith, above_more m a b xs lt h.1)

rise_put : (m : FinMap nat_cmp ℕ) (name : ℕ) (xs : List ℕ) → Rise m xs → Rise m (put m name xs)
rise_put m name [] h = (tt, tt)
rise_put m name (x ∷ xs) h = ⊎_elim
    (λ t. let below : address_in m x < address_in m name = grind (arith, nat_tests, t) in
    rw t (above_put m (address_in m x) name xs below h.0, rise_put m name xs h.1))
    (λ f. ⊎_elim
    (λ t. let below : address_in m name < address_in m x = grind (arith, nat_tests, t) in
    rw f (rw t ((below, above_more m (address_in m name) (address_in m x) xs below h.0), h)))
    (λ g. rw f (rw g h))
    (cases_Bool (nat_lt (address_in m name) (address_in m x))))
    (cases_Bool (nat_lt (address_in m x) (address_in m name)))

rise_names : (m : FinMap nat_cmp ℕ) (names : List ℕ) → Rise m (rising_names m names)
rise_names m [] = tt
rise_names m (name ∷ names) = rise_put m name (rising_names m names) (rise_names m names)

above_at : (m : FinMap nat_cmp ℕ) (a : ℕ) (xs : List ℕ) → AreAbove m a xs → (i d : ℕ) → i < length xs → a < address_in m (get_or xs i d)
above_at m a [] h i d on = absurd (omega arith)
above_at m a (x ∷ xs) h zero d on = h.0
above_at m a (x ∷ xs) h (suc i) d on = above_at m a xs h.1 i d (omega arith)

pairs : (m : FinMap nat_cmp ℕ) (xs : List ℕ) → Rise m xs → IsRising m xs
pairs m [] h i j d lt on = absurd (omega arith)
pairs m (x ∷ xs) h i zero d lt on = absurd (omega arith)
pairs m (x ∷ xs) h zero (suc j) d lt on = above_at m (address_in m x) xs h.0 j d (omega arith)
pairs m (x ∷ xs) h (suc i) (suc j) d lt on = pairs m xs h.1 i j d (omega arith) (omega arith)

pub IsRising-rising_names : (m : FinMap nat_cmp ℕ) (names : List ℕ) → IsRising m (rising_names m names)
IsRising-rising_names m names = pairs m (rising_names m names) (rise_names m names)

put_member : (m : FinMap nat_cmp ℕ) (name : ℕ) (xs : List ℕ) → ((x : ℕ) → is_member nat_eq xs x ≡ true → address_in m x ≡ address_in m name → x ≡ name) →
    (n : ℕ) → is_member nat_eq (put m name xs) n ≡ (nat_eq n name || is_member nat_eq xs n)
put_member m name [] one n = refl
put_member m name (x ∷ xs) one n =
    let e = put_member m name xs (λ y k. one y (or_right (nat_eq y x) _ k)) n in
    ⊎_elim
    (λ t. rw t (ap (λ b. nat_eq n x || b) e ∙ turned (nat_eq n x) (nat_eq n name) (is_member nat_eq xs n)))
    (λ f. ⊎_elim
    (λ t. rw f (rw t refl))
    (λ g. let same : x ≡ name = one x (or_left _ _ (eq-eqb x x refl)) (grind (arith, nat_tests, f, g)) in
    rw f (rw g (twice (nat_eq n x) (nat_eq n name) (is_member nat_eq xs n) (ap (nat_eq n) same))))
    (cases_Bool (nat_lt (address_in m name) (address_in m x))))
    (cases_Bool (nat_lt (address_in m x) (address_in m name)))
  where
    turned : (a b c : Bool) → (a || (b || c)) ≡ (b || (a || c))
    turned true true c = refl
    turned true false c = refl
    turned false b c = refl

    twice : (a b c : Bool) → a ≡ b → (a || c) ≡ (b || (a || c))
    twice true true c e = refl
    twice true false c e = absurd (cc)
    twice false true c e = absurd (cc)
    twice false false c e = refl

-- they are the same names, where no two of them have one address
pub member-rising_names : (m : FinMap nat_cmp ℕ) (names : List ℕ) →
    ((x y : ℕ) → is_member nat_eq names x ≡ true → is_member nat_eq names y ≡ true → address_in m x ≡ address_in m y → x ≡ y) → (n : ℕ) →
    is_member nat_eq (rising_names m names) n ≡ is_member nat_eq names n
member-rising_names m [] one n = refl
member-rising_names m (name ∷ names) one n =
    let same = member-rising_names m names (λ x y h k. one x y (or_right (nat_eq x name) _ h) (or_right (nat_eq y name) _ k)) in
    put_member m name (rising_names m names) (λ x k e. one x name (or_right (nat_eq x name) _ (sym (same x) ∙ k)) (or_left _ _ (eq-eqb name name refl)) e) n
    ∙ ap (λ b. nat_eq n name || b) (same n)
