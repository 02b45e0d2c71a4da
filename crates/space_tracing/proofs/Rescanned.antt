-- Scans of what was black before: what they are as they go on by address, and how few they are.
use Rattle.std.proofs.Common.{◌≡◌, ◌⊎◌, inl, inr, ⊎_elim, ℕ, ◌+◌, ◌*◌, ◌^◌, ◌<◌, ◌≤◌, Bool, true, false, ◌&&◌, List, [], ◌∷◌, ◌++◌, length, nat_eq, nat_lt, refl, sym, ◌∙◌, arith}
use Rattle.std.specs.Set.{is_member}
use Rattle.std.proofs.lemmas.Bool.{cases_eq, cases_lt, or_cases, or_left, or_right}
use Rattle.std.proofs.lemmas.Bool.Decides.{nat_tests}
use Rattle.std.proofs.lemmas.List.Folds.{list_any-append}
use Rattle.space_heap.specs.declared.colour.Colour.{Colour}
use Rattle.space_heap.specs.declared.colour.Colour.TheVariants.{White, Grey, Black}
use Rattle.space_heap.specs.HeapView.{HeapView}
use Rattle.space_heap.specs.Objects.{is_object}
use Rattle.space_heap.specs.Marking.{colour_of}
use Rattle.space_heap.specs.planes.RecolouredMarks.{is_black}
use Rattle.space_heap.specs.SoundHeap.{IsSoundHeap}
use Rattle.space_heap.specs.Walks.{HasNoneFrom, IsNext}
use Rattle.space_heap.proofs.ObjectLaws.{occupied_from_object}
use Rattle.space_heap.proofs.Coherence.{occupied_from_colour}
use Rattle.space_heap.proofs.ObjectCounts.{few_in_sound}
use Rattle.space_heap.proofs.SweptPages.{standing_below}
use Rattle.space_heap.proofs.NumberLists.{is_member-push}
use Rattle.space_tracing.specs.Scans.{read_object}
use Rattle.space_tracing.specs.Graph.{IsNamed, IsStart}
use Rattle.space_tracing.specs.Marking.{Marks}
use Rattle.space_tracing.specs.Rescans.{ScansBelow}
use Rattle.space_tracing.proofs.Bundles.{marks_again, colours}

-- no object stands at or above 2^29
pub small_object : (v : HeapView) (a : ℕ) → IsSoundHeap v → is_object v a ≡ true → a < 2 ^ 29
small_object v a sound is = standing_below v a sound (occupied_from_object v a is)

-- no more objects are scanned again than there are slots
pub few_again : (old v : HeapView) (words again done : List ℕ) → Marks old v words again done → IsSoundHeap v → length again ≤ 1638 * 4096
few_again old v words again done m sound = few_in_sound v sound again m.marking.again_once
    (λ a k. m.same.standing a ∙ occupied_from_colour old a (let b = m.marking.again_black a k in λ w. cc))

pub Black-from_is_black : (c : Colour) → is_black c ≡ true → c ≡ Black
Black-from_is_black White e = cc
Black-from_is_black Grey e = cc
Black-from_is_black Black e = refl

pub is_black-at : (c : Colour) → c ≡ Black → is_black c ≡ true
is_black-at White e = cc
is_black-at Grey e = cc
is_black-at Black e = refl

-- until something is scanned for the first time, what is black stays the same
pub black-same : (old v : HeapView) (words again : List ℕ) (a : ℕ) → Marks old v words again [] → is_black (colour_of v a) ≡ is_black (colour_of old a)
black-same old v words again a m =
    grind (arith, colours (colour_of v a), colours (colour_of old a), m.marking.black_kept a, m.marking.black_done a)

pub below_none : (test : ℕ → Bool) (old v : HeapView) (words : List ℕ) → Marks old v words [] [] → ScansBelow test old v words [] 0
below_none test old v words m = record { marks = m; each = λ a. grind (arith, nat_tests) }

-- `now` tells which objects pass the test as the heap is now: those that weren't scanned again pass it as before
module _ (test now : ℕ → Bool) (old v : HeapView) (words again : List ℕ) (from : ℕ) (r : ScansBelow test old v words again from)
    (same : (b : ℕ) → is_member nat_eq again b ≡ false → now b ≡ test b) where
  fresh : (b : ℕ) → from ≤ b → is_member nat_eq again b ≡ false
  fresh b above = let e = r.each b in grind (arith, nat_tests, e, above)

  same_from : (b : ℕ) → from ≤ b → now b ≡ test b
  same_from b above = same b (fresh b above)

  -- the next object that passes the test was scanned again
  pub below_scan : (a : ℕ) → (test a ≡ true → colour_of old a ≡ Black) → IsNext now from a
      → ScansBelow test old (read_object v a) words (again ++ a ∷ []) (a + 1)
  below_scan a black next =
      let there = next.from_there in
      let here : test a ≡ true = sym (same_from a there) ∙ next.is in
      let gap : (b : ℕ) → from ≤ b → b < a → test b ≡ false = λ b above below. sym (same_from b above) ∙ next.before b above below in
      record {
        marks = marks_again old v words again [] a (black here) (fresh a there) r.marks;
        each = λ b. ⊎_elim
            (λ is. grind (arith, nat_tests, is, here, is_member-push again a b))
            (λ differ. ⊎_elim
            (λ low. grind (arith, nat_tests, r.each b, low, there, differ, is_member-push again a b))
            (λ high. ⊎_elim
            (λ mid. grind (arith, nat_tests, r.each b, gap b high mid, high, mid, differ, is_member-push again a b))
            (λ past. grind (arith, nat_tests, r.each b, high, past, differ, is_member-push again a b))
            (cases_lt b a))
            (cases_lt b from))
            (cases_eq b a);
      }

  -- no object that passes the test is left
  pub below_all : HasNoneFrom now from → (a : ℕ) → is_member nat_eq again a ≡ test a
  below_all none a = ⊎_elim
      (λ low. grind (arith, nat_tests, r.each a, low))
      (λ high. fresh a high ∙ sym (sym (same_from a high) ∙ none a high))
      (cases_lt a from)

-- what roots and then the stack name is what marking starts from
pub start_split : (v : HeapView) (roots stack : List ℕ) (n : ℕ) → IsNamed v (roots ++ stack) n → IsStart v roots stack n
start_split v roots stack n k = ⊎_elim (λ l. inl (k.0, l)) (λ r. inr (k.0, r)) (or_cases _ _ (sym (list_any-append (nat_eq n) roots stack) ∙ k.1))

pub start_join : (v : HeapView) (roots stack : List ℕ) (n : ℕ) → IsStart v roots stack n → IsNamed v (roots ++ stack) n
start_join v roots stack n s = ⊎_elim
    (λ k. (k.0, list_any-append (nat_eq n) roots stack ∙ or_left _ _ k.1))
    (λ k. (k.0, list_any-append (nat_eq n) roots stack ∙ or_right _ _ k.1))
    s
