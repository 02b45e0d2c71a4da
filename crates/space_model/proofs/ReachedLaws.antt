-- The list of reached names has exactly these, each once.
use Rattle.std.proofs.Common.{◌≡◌, ℕ, true, List, [], ◌∷◌, nat_eq, refl, sym, ap, ◌∙◌, inl, inr, ⊎_elim, arith, Option, None, Some}
use Rattle.std.specs.Prelude.{is_some, ◌↔◌}
use Rattle.std.specs.List.{flat_map, list_any, IsDistinct}
use Rattle.std.specs.Set.{is_member}
use Rattle.std.specs.Ordering.{nat_cmp, eq_by_cmp}
use Rattle.std.specs.FinMap.{FinMap, get, keys, contains_key-keys}
use Rattle.std.proofs.lemmas.Bool.{and_parts, and_from, eqb-true, eq-eqb, false≢true}
use Rattle.std.proofs.lemmas.Bool.Decides.{nat_tests}
use Rattle.space_model.specs.State.{State}
use Rattle.space_model.specs.Reach.{IsStart, Reach}
use Rattle.space_model.specs.Roots.{root_names}
use Rattle.space_model.specs.Maps.{is_at, names_at}
use Rattle.space_model.specs.Reached.{start_names, reached_in, reached_names}
use Rattle.space_model.proofs.Members.{member_left, member_right, member_cases, member_flat, member_unflat, member_filter}
use Rattle.space_model.proofs.LedNames.{led_names-once, member-led_names}

pub ties : (x y : ℕ) → eq_by_cmp nat_cmp x y ≡ nat_eq x y
ties x y = grind (arith, nat_tests)

any_ties : (q : ℕ) (xs : List ℕ) → list_any (eq_by_cmp nat_cmp q) xs ≡ is_member nat_eq xs q
any_ties q [] = refl
any_ties q (x ∷ xs) = rw (ties q x, any_ties q xs) refl

-- the keys of a map are the names that it has
pub member-keys : {X : Type 0} (m : FinMap nat_cmp X) (q : ℕ) → is_member nat_eq (keys m) q ≡ is_some (get m q)
member-keys m q = sym (any_ties q (keys m)) ∙ sym (contains_key-keys m q)

is_at-some : (w : ℕ) (o : Option ℕ) → is_at w o ≡ true → o ≡ Some w
is_at-some w None e = absurd (false≢true e)
is_at-some w (Some a) e = ap Some (eqb-true a w e)

pub member-names_at : (place : FinMap nat_cmp ℕ) (w n : ℕ) → (is_member nat_eq (names_at place w) n ≡ true) ↔ (get place n ≡ Some w)
unfolding names_at
member-names_at place w n =
    let e = member_filter (λ n. is_at w (get place n)) (keys place) n in (
      (λ m. is_at-some w _ (and_parts _ _ (sym e ∙ m)).1),
      (λ g. e ∙ and_from _ _ (member-keys place n ∙ ap is_some g) (ap (is_at w) g ∙ eq-eqb w w refl)),
    )

pub member-start_names : (s : State) (n : ℕ) → (is_member nat_eq (start_names s.roots s.stack s.heap.place) n ≡ true) ↔ IsStart s n
unfolding start_names
member-start_names s n = (
  (λ m. ⊎_elim
      (λ r. inl r)
      (λ k. let r = member_unflat (names_at s.heap.place) s.stack n k in inr (r.0, r.1, (member-names_at s.heap.place r.0 n).0 r.2))
      (member_cases (root_names s.roots) (flat_map (names_at s.heap.place) s.stack) n m)),
  (λ h. ⊎_elim
      (λ r. member_left (root_names s.roots) _ n r)
      (λ k. member_right (root_names s.roots) _ n (member_flat (names_at s.heap.place) s.stack k.0 n k.1 ((member-names_at s.heap.place k.0 n).1 k.2)))
      h),
)

module _ (s : State) where
  pub reached_names-once : IsDistinct nat_eq (reached_names s)
  unfolding reached_in
  reached_names-once = led_names-once s.graph (start_names s.roots s.stack s.heap.place)

  -- each name of the list is reached, and each reached name is in the list
  pub member-reached_names : (n : ℕ) → (is_member nat_eq (reached_names s) n ≡ true) ↔ Reach s n
  unfolding reached_in
  member-reached_names n = member-led_names s.graph (start_names s.roots s.stack s.heap.place) (IsStart s) (member-start_names s) n
