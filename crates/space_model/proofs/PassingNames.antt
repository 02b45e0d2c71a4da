-- The present names that pass a test, in ascending order of place.
use Rattle.std.proofs.Common.{◌≡◌, ◌&&◌, ℕ, true, Bool, List, length, nat_eq, refl, sym, ap, ◌∙◌, Some}
use Rattle.std.specs.Prelude.{◌↔◌}
use Rattle.std.specs.List.{filter}
use Rattle.std.specs.Set.{is_member}
use Rattle.std.specs.FinMap.{keys}
use Rattle.std.proofs.lemmas.Bool.{and_parts, and_from}
use Rattle.space_model.specs.Counts.{CountIs}
use Rattle.space_model.specs.Maps.{address_in, IsRising}
use Rattle.space_model.specs.Sound.{AreSlots}
use Rattle.space_model.specs.State.{State, is_present}
use Rattle.space_model.proofs.MapLaws.{present_at}
use Rattle.space_model.proofs.Members.{member_filter}
use Rattle.space_model.proofs.ReachedLaws.{member-keys}
use Rattle.space_model.proofs.RisingNames.{rising_names, IsRising-rising_names, member-rising_names}
use Rattle.space_model.proofs.ToldNames.{IsDistinct-rising}

abbrev pub passing_names : State → (ℕ → Bool) → List ℕ
passing_names s test = rising_names s.heap.place (filter test (keys s.heap.place))

pub IsRising-passing_names : (s : State) (test : ℕ → Bool) → IsRising s.heap.place (passing_names s test)
IsRising-passing_names s test = IsRising-rising_names s.heap.place (filter test (keys s.heap.place))

module _ (s : State) (h : AreSlots s.graph s.heap.pages s.heap.place) (test : ℕ → Bool) where
  filtered : (n : ℕ) → is_member nat_eq (filter test (keys s.heap.place)) n ≡ (is_member nat_eq (keys s.heap.place) n && test n)
  filtered n = member_filter test (keys s.heap.place) n

  passes : (n : ℕ) → is_member nat_eq (filter test (keys s.heap.place)) n ≡ true → (is_present s n ≡ true) × (test n ≡ true)
  passes n m =
      let both = and_parts (is_member nat_eq (keys s.heap.place) n) (test n) (sym (filtered n) ∙ m) in
      (sym (member-keys s.heap.place n) ∙ both.0, both.1)

  risen : (n : ℕ) → is_member nat_eq (passing_names s test) n ≡ is_member nat_eq (filter test (keys s.heap.place)) n
  risen = member-rising_names s.heap.place (filter test (keys s.heap.place))
      (λ x y m k e.
      h.once x y (address_in s.heap.place x) (present_at s.heap.place x (passes x m).0)
      (present_at s.heap.place y (passes y k).0 ∙ ap Some (sym e)))

  pub member-passing_names : (n : ℕ) → (is_member nat_eq (passing_names s test) n ≡ true) ↔ ((is_present s n ≡ true) × (test n ≡ true))
  member-passing_names n = (
    (λ m. passes n (sym (risen n) ∙ m)),
    (λ (p, passed). risen n ∙ filtered n ∙ and_from _ _ (member-keys s.heap.place n ∙ p) passed),
  )

  pub CountIs-passing : (P : ℕ → Type 0) → ((n : ℕ) → ((is_present s n ≡ true) × (test n ≡ true)) ↔ P n) → CountIs P (length (passing_names s test))
  CountIs-passing P same = record {
    names = passing_names s test;
    once = IsDistinct-rising s.heap.place (passing_names s test) (IsRising-passing_names s test);
    are = λ n. ((λ m. (same n).0 ((member-passing_names n).0 m)), (λ p. (member-passing_names n).1 ((same n).1 p)));
    long = refl;
  }
