-- Facts on lists of numbers, for the callers.
use Rattle.std.proofs.Common.{◌≡◌, ℕ, ◌-◌, ◌<◌, ◌≤◌, true, false, ◌||◌, List, [], ◌∷◌, ◌++◌, length, map, nat_eq, get_or, take, refl, sym, subst, arith, ⊎_elim}
use Rattle.std.specs.List.{IsDistinct, AllByRecursion}
use Rattle.std.specs.Set.{is_member}
use Rattle.std.proofs.lemmas.Bool.{eqb-true, eqb-false, ne_eqb, or_from, or_left, or_right, or_cases}
use Rattle.std.proofs.lemmas.Bool.Decides.{nat_tests}
use Rattle.std.proofs.lemmas.Grind.{common_steps}
use Rattle.std.proofs.Math.ListN.{length-map}
use Rattle.std.proofs.lemmas.Map.Steps.{length-le_from_distinct_below}

pub is_member-push : (xs : List ℕ) (y q : ℕ) → is_member nat_eq (xs ++ y ∷ []) q ≡ (is_member nat_eq xs q || nat_eq q y)
is_member-push [] y q = grind (arith, nat_tests)
is_member-push (x ∷ xs) y q = grind (arith, nat_tests, is_member-push xs y q)

AllByRecursion-pop : (P : ℕ → Type 0) (xs : List ℕ) (y : ℕ) → AllByRecursion P (xs ++ y ∷ []) → AllByRecursion P xs × P y
AllByRecursion-pop P [] y a = (tt, a.0)
AllByRecursion-pop P (x ∷ xs) y a = let t = AllByRecursion-pop P xs y a.1 in ((a.0, t.0), t.1)

pub IsDistinct-pop : (xs : List ℕ) (y : ℕ) → IsDistinct nat_eq (xs ++ y ∷ []) → IsDistinct nat_eq xs × (is_member nat_eq xs y ≡ false)
unfolding IsDistinct
IsDistinct-pop [] y d = (tt, refl)
IsDistinct-pop (x ∷ xs) y d =
    let t = IsDistinct-pop xs y d.1 in
    let a = AllByRecursion-pop (λ z. nat_eq x z ≡ false) xs y d.0 in
    ((a.0, t.0), or_from _ _ (ne_eqb y x (λ e. eqb-false x y a.1 (sym e))) t.1)

pub IsDistinct-none : IsDistinct nat_eq []
unfolding IsDistinct
IsDistinct-none = tt

-- a list that isn't empty, cut before its last
pub take_last : (xs : List ℕ) (d : ℕ) → 0 < length xs → take (length xs - 1) xs ++ get_or xs (length xs - 1) d ∷ [] ≡ xs
take_last xs d h = grind (arith, common_steps)

apart-map : (f : ℕ → ℕ) (x : ℕ) (xs : List ℕ) → ((y : ℕ) → is_member nat_eq xs y ≡ true → f x ≡ f y → x ≡ y) → AllByRecursion (λ y. nat_eq x y ≡ false) xs
    → AllByRecursion (λ y. nat_eq (f x) y ≡ false) (map f xs)
apart-map f x [] one a = tt
apart-map f x (y ∷ ys) one a = (
  ne_eqb (f x) (f y) (λ e. eqb-false x y a.0 (one y (or_left (nat_eq y y) _ (grind (arith, nat_tests))) e)),
  apart-map f x ys (λ z m. one z (or_right (nat_eq z y) _ m)) a.1,
)

-- what differs on a list keeps it distinct
pub IsDistinct-map : (f : ℕ → ℕ) (xs : List ℕ) → ((x y : ℕ) → is_member nat_eq xs x ≡ true → is_member nat_eq xs y ≡ true → f x ≡ f y → x ≡ y)
    → IsDistinct nat_eq xs → IsDistinct nat_eq (map f xs)
unfolding IsDistinct
IsDistinct-map f [] one d = tt
IsDistinct-map f (x ∷ xs) one d = (
  apart-map f x xs (λ y m. one x y (or_left (nat_eq x x) _ (grind (arith, nat_tests))) (or_right (nat_eq y x) _ m)) d.0,
  IsDistinct-map f xs (λ y z m n. one y z (or_right (nat_eq y x) _ m) (or_right (nat_eq z x) _ n)) d.1,
)

below-map : (f : ℕ → ℕ) (n : ℕ) (xs : List ℕ) → ((x : ℕ) → is_member nat_eq xs x ≡ true → f x < n) → (q : ℕ) → is_member nat_eq (map f xs) q ≡ true → q < n
below-map f n [] small q m = cc
below-map f n (x ∷ xs) small q m = ⊎_elim
    (λ e. subst (λ q. q < n) (sym (eqb-true q (f x) e)) (small x (or_left (nat_eq x x) _ (grind (arith, nat_tests)))))
    (λ r. below-map f n xs (λ y k. small y (or_right (nat_eq y x) _ k)) q r)
    (or_cases _ _ m)

-- numbers with different places below n are at most n
pub few_places : (f : ℕ → ℕ) (n : ℕ) (xs : List ℕ) → IsDistinct nat_eq xs → ((x : ℕ) → is_member nat_eq xs x ≡ true → f x < n)
    → ((x y : ℕ) → is_member nat_eq xs x ≡ true → is_member nat_eq xs y ≡ true → f x ≡ f y → x ≡ y) → length xs ≤ n
few_places f n xs d small one =
    let l = length-le_from_distinct_below (map f xs) n (IsDistinct-map f xs one d) (below-map f n xs small) in
    omega (arith, l, length-map xs f)
