-- There is one dump of all lines.
use Rattle.std.proofs.Common.{◌≡◌, ℕ, true, List, [], ◌∷◌, ◌++◌, length, nat_eq, refl, sym, ap, ◌∙◌, subst, arith, ⊎_elim}
use Rattle.std.specs.Prelude.{◌↔◌}
use Rattle.std.specs.Set.{is_member}
use Rattle.std.specs.Ordering.{nat_cmp}
use Rattle.std.specs.FinMap.{FinMap}
use Rattle.std.proofs.lemmas.Bool.{or_cases, or_left, or_right, eq-eqb, eqb-true, false≢true}
use Rattle.space_model.specs.declared.reply.Reply.TheVariants.{Dumped}
use Rattle.space_model.specs.Dumps.{dump_lines, ArePresentNames, DumpsAll}
use Rattle.space_model.specs.Maps.{IsRising}
use Rattle.space_model.specs.Outputs.{Output, Replied}
use Rattle.space_model.specs.Sound.{Sound}
use Rattle.space_model.specs.State.{State}
use Rattle.space_model.proofs.PassingNames.{passing_names, IsRising-passing_names, member-passing_names}
use Rattle.space_model.proofs.ToldNames.{rising_tail, rising_first}

module _ (m : FinMap nat_cmp ℕ) where
  -- the first of names in ascending order isn't among the others
  apart : (first : ℕ) (others : List ℕ) → IsRising m (first ∷ others) → is_member nat_eq others first ≡ true → ⊥
  apart first others h among = let up = rising_first m first others first h among in omega arith

  -- the others of names that are all among those of another list, which begins with the same
  among_others : (x y : ℕ) (xs ys : List ℕ) → x ≡ y → IsRising m (x ∷ xs) →
      ((n : ℕ) → is_member nat_eq (x ∷ xs) n ≡ true → is_member nat_eq (y ∷ ys) n ≡ true) → (n : ℕ) → is_member nat_eq xs n ≡ true →
      is_member nat_eq ys n ≡ true
  among_others x y xs ys e h to n among = ⊎_elim
      (λ is. absurd (apart x xs h (subst (λ n. is_member nat_eq xs n ≡ true) (eqb-true n y is ∙ sym e) among)))
      (λ there. there)
      (or_cases _ _ (to n (or_right (nat_eq n x) _ among)))

  -- the first names of two lists of the same
  same_first : (x y : ℕ) (xs ys : List ℕ) → IsRising m (x ∷ xs) → IsRising m (y ∷ ys) →
      ((n : ℕ) → (is_member nat_eq (x ∷ xs) n ≡ true) ↔ (is_member nat_eq (y ∷ ys) n ≡ true)) → x ≡ y
  same_first x y xs ys h k same = ⊎_elim
      (λ e. eqb-true x y e)
      (λ later. ⊎_elim
      (λ e. sym (eqb-true y x e))
      (λ before. absurd (let up = rising_first m y ys x k later in let down = rising_first m x xs y h before in omega arith))
      (or_cases _ _ ((same y).1 (or_left _ _ (eq-eqb y y refl)))))
      (or_cases _ _ ((same x).0 (or_left _ _ (eq-eqb x x refl))))

  -- names in ascending order are one list
  rising_one : (xs ys : List ℕ) → IsRising m xs → IsRising m ys → ((n : ℕ) → (is_member nat_eq xs n ≡ true) ↔ (is_member nat_eq ys n ≡ true)) → xs ≡ ys
  rising_one [] [] h k same = refl
  rising_one [] (y ∷ ys) h k same = absurd (false≢true ((same y).1 (or_left _ _ (eq-eqb y y refl))))
  rising_one (x ∷ xs) [] h k same = absurd (false≢true ((same x).0 (or_left _ _ (eq-eqb x x refl))))
  rising_one (x ∷ xs) (y ∷ ys) h k same =
      let e = same_first x y xs ys h k same in
      let rest = rising_one xs ys (rising_tail m x xs h) (rising_tail m y ys k)
      (λ n. (among_others x y xs ys e h (λ n. (same n).0) n, among_others y x ys xs (sym e) k (λ n. (same n).1) n)) in
      ap (λ z. z ∷ xs) e ∙ ap (λ zs. y ∷ zs) rest

pub dump_one : (s : State) (names others : List ℕ) (answer other : List Output) → ArePresentNames s names → ArePresentNames s others →
    DumpsAll s names answer → DumpsAll s others other → answer ≡ other
dump_one s names others answer other h k d e =
    let same : names ≡ others =
    rising_one s.heap.place names others h.rising k.rising
    (λ n. ((λ m. (k.are n).1 ((h.are n).0 m)), (λ m. (h.are n).1 ((k.are n).0 m)))) in
    d ∙ ap (λ ns. dump_lines s ns ++ Replied (Dumped (length ns)) ∷ []) same ∙ sym e

pub dump_there : (s : State) → Sound s → (names : List ℕ) × (answer : List Output) × ArePresentNames s names × DumpsAll s names answer
dump_there s h =
    let names = passing_names s (λ n. true) in
    let are = member-passing_names s h.layout.placed (λ n. true) in (
      names,
      dump_lines s names ++ Replied (Dumped (length names)) ∷ [],
      record { are = λ n. ((λ m. ((are n).0 m).0), (λ p. (are n).1 (p, refl))); rising = IsRising-passing_names s (λ n. true) },
      refl,
    )
