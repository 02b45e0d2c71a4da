-- The first page that waits for a sweep.
use Rattle.std.proofs.Common.{◌≡◌, ⊎_elim, ℕ, zero, suc, ◌+◌, ◌<◌, ◌≤◌, Bool, true, false, List, [], ◌∷◌, length, nat_eq, sym, ap, ◌∙◌, arith}
use Rattle.std.specs.List.{range_with_len, filter}
use Rattle.std.specs.Set.{is_member}
use Rattle.std.proofs.lemmas.Bool.{cases_Bool, cases_eq, cases_lt, cond-true, cond-false}
use Rattle.std.proofs.lemmas.Bool.Decides.{nat_tests}
use Rattle.space_heap.specs.HeapView.{HeapView, is_unswept}
use Rattle.space_heap.specs.SoundHeap.{IsSoundHeap}
use Rattle.space_heap.proofs.WaitingPages.{none_left, first_left}
use Rattle.space_sweep.specs.Sweeps.{IsFirstUnswept, IsNextUnswept}

pub first_is : (v : HeapView) (page : ℕ) → IsSoundHeap v → IsNextUnswept v 0 page → IsFirstUnswept v page
first_is v page sound next =
    let f = first_left (is_unswept v) 0 (length v.pages) page (omega arith) (let w = next.within in omega arith) next.is (λ k b c. next.before k b c) in
    (f.0, sound.waiting ∙ f.1)

pub none_waits : (v : HeapView) → IsSoundHeap v → ((page : ℕ) → 0 ≤ page → is_unswept v page ≡ false) → v.unswept ≡ []
none_waits v sound none = sound.waiting ∙ none_left (is_unswept v) (range_with_len 0 (length v.pages)) (λ k. none k (omega arith))

-- where none below a page waits, and none from it on, none waits
pub none_from : (v : HeapView) (from : ℕ) → IsSoundHeap v → ((page : ℕ) → page < from → is_unswept v page ≡ false)
    → ((page : ℕ) → from ≤ page → is_unswept v page ≡ false) → v.unswept ≡ []
none_from v from sound below above = none_waits v sound (λ page z. ⊎_elim (λ b. below page b) (λ a. above page a) (cases_lt page from))

-- where none below a page waits, the next one from it on that waits is the first
pub first_from : (v : HeapView) (from page : ℕ) → IsSoundHeap v → ((other : ℕ) → other < from → is_unswept v other ≡ false) → IsNextUnswept v from page
    → IsFirstUnswept v page
first_from v from page sound below next = first_is v page sound (record {
  from_there = omega arith;
  within = next.within;
  is = next.is;
  before = λ other z b. ⊎_elim (λ c. below other c) (λ c. next.before other c b) (cases_lt other from);
})

-- a number below the first one that passes is left out
out_below : (test : ℕ → Bool) (a n x : ℕ) (xs : List ℕ) → filter test (range_with_len a n) ≡ x ∷ xs → (k : ℕ) → a ≤ k → k < x → test k ≡ false
out_below test a zero x xs e k above below = cc
out_below test a (suc n) x xs e k above below =
    let ys : List ℕ = filter test (range_with_len (a + 1) n) in
    ⊎_elim
    (λ t.
    let here : a ∷ ys ≡ x ∷ xs = sym (cond-true (test a) (a ∷ ys) ys t) ∙ e in
    let same : a ≡ x = cc in
    absurd (omega arith))
    (λ f. ⊎_elim
    (λ same. ap test (sym same) ∙ f)
    (λ differ. out_below test (a + 1) n x xs (sym (cond-false (test a) (a ∷ ys) ys f) ∙ e) k (omega (arith, differ)) below)
    (cases_eq a k))
    (cases_Bool (test a))

-- the first page that waits does wait, and none below it
pub first_waits : (v : HeapView) (page : ℕ) → IsFirstUnswept v page → is_unswept v page ≡ true
first_waits v page first = ap (λ pages. is_member nat_eq pages page) first.1 ∙ grind (arith, nat_tests)

pub none_before : (v : HeapView) (page : ℕ) → IsSoundHeap v → IsFirstUnswept v page → (other : ℕ) → other < page → is_unswept v other ≡ false
none_before v page sound first other below = out_below (is_unswept v) 0 (length v.pages) page first.0 (sym sound.waiting ∙ first.1) other (omega arith) below
