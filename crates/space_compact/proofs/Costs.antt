-- Steps that are taken for objects, at most one for each: they are few.
use Rattle.std.proofs.Common.{◌≡◌, ⊎_elim, ℕ, ◌+◌, ◌^◌, ◌<◌, ◌≤◌, true, false, List, [], ◌∷◌, ◌++◌, length, nat_eq, ap, ◌∙◌, arith}
use Rattle.std.specs.List.{IsDistinct}
use Rattle.std.specs.Set.{is_member}
use Rattle.std.proofs.lemmas.Bool.{cases_Bool, cases_eq}
use Rattle.std.specs.Cmp.{nat_eq_equiv}
use Rattle.std.proofs.lemmas.Bool.Decides.{nat_tests}
use Rattle.std.proofs.lemmas.Map.Keys.{IsDistinct-push}
use Rattle.std.proofs.lemmas.List.{length_push}
use Rattle.space_heap.specs.HeapView.{HeapView}
use Rattle.space_heap.specs.Objects.{is_occupied}
use Rattle.space_heap.specs.SoundHeap.{IsSoundHeap}
use Rattle.space_heap.proofs.NumberLists.{is_member-push}
use Rattle.space_heap.proofs.ObjectCounts.{few_in_sound}

-- from one count of steps to another each step was for an object of its own, below this address
pub record AreFewSteps (v : HeapView) (from before after : ℕ) : Type 0 where
  pub places : List ℕ
  pub once : IsDistinct nat_eq places
  pub occupied : (a : ℕ) → is_member nat_eq places a ≡ true → is_occupied v a ≡ true
  pub below : (a : ℕ) → is_member nat_eq places a ≡ true → a < from
  pub least : before ≤ after
  pub most : after ≤ before + length places

pub no_steps : (v : HeapView) (from count : ℕ) → AreFewSteps v from count count
unfolding IsDistinct
no_steps v from count = record { places = []; once = tt; occupied = λ a m. cc; below = λ a m. cc; least = omega arith; most = omega arith }

-- at most one step more, for an object that isn't below the address
pub one_step : (v : HeapView) (from a before count after : ℕ) → AreFewSteps v from before count → from ≤ a → is_occupied v a ≡ true
    → count ≤ after → after ≤ count + 1 → AreFewSteps v (a + 1) before after
one_step v from a before count after few above stands least most =
    let fresh : is_member nat_eq few.places a ≡ false = ⊎_elim
    (λ there. let b = few.below a there in absurd (omega arith))
    (λ fresh. fresh)
    (cases_Bool (is_member nat_eq few.places a)) in
    record {
      places = few.places ++ a ∷ [];
      once = IsDistinct-push nat_eq_equiv few.places a few.once fresh;
      occupied = λ b m. ⊎_elim
          (λ same. ap (is_occupied v) same ∙ stands)
          (λ other. few.occupied b (grind (arith, nat_tests, other, m, is_member-push few.places a b)))
          (cases_eq b a);
      below = λ b m. ⊎_elim
          (λ same. omega arith)
          (λ other. let l = few.below b (grind (arith, nat_tests, other, m, is_member-push few.places a b)) in omega arith)
          (cases_eq b a);
      least = let l = few.least in omega arith;
      most = let m = few.most in omega (arith, m, length_push few.places a, most);
    }

-- no heap has so many objects
pub few_steps : (v : HeapView) (from before after : ℕ) → IsSoundHeap v → AreFewSteps v from before after → after < before + 2 ^ 23
few_steps v from before after sound few = let n = few_in_sound v sound few.places few.once few.occupied in let m = few.most in omega arith
