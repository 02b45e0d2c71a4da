-- The pages that wait for a sweep: the first of them, and how many they are.
use Rattle.std.proofs.Common.{◌≡◌, ⊎_elim, ℕ, zero, suc, ◌+◌, ◌<◌, ◌≤◌, Bool, true, false, List, [], ◌∷◌, length, refl, sym, ap, ◌∙◌, arith, Option, None, Some}
use Rattle.std.specs.Prelude.{MatchOption}
use Rattle.std.specs.List.{range_with_len, filter}
use Rattle.std.proofs.lemmas.Bool.{cases_eq, cond-true, cond-false}
use Rattle.std.proofs.lemmas.List.Sums.{length-filter}
use Rattle.std.proofs.lemmas.List.FromFn.{length-range_with_len, get_or-range_with_len}
use Rattle.space_pools.specs.PageSlots.{spare_page}
use Rattle.space_pools.specs.PoolsView.{PoolsView, unswept_at}
use Rattle.space_pools.specs.Unswept.{is_unswept, unswept_count, HasNoUnswept, IsFirstUnswept as IsFirstInPools}
use Rattle.space_heap.specs.declared.marks.Marks.{Marks}
use Rattle.space_heap.specs.Sweeping.{IsFirstUnswept}
use Rattle.space_heap.specs.Inside.{unswept_in, Rest, view_with}
use Rattle.space_heap.proofs.NewPages.{same_counts}

-- a test that leaves all out leaves nothing
pub none_left : (test : ℕ → Bool) (xs : List ℕ) → ((k : ℕ) → test k ≡ false) → filter test xs ≡ []
none_left test [] out = refl
none_left test (x ∷ xs) out = cond-false (test x) (x ∷ filter test xs) (filter test xs) (out x) ∙ none_left test xs out

-- the first number that passes comes first
pub first_left : (test : ℕ → Bool) (a n x : ℕ) → a ≤ x → x < a + n → test x ≡ true → ((k : ℕ) → a ≤ k → k < x → test k ≡ false)
    → (xs : List ℕ) × (filter test (range_with_len a n) ≡ x ∷ xs)
first_left test a zero x above below passes out = absurd (omega arith)
first_left test a (suc n) x above below passes out =
    let xs : List ℕ = filter test (range_with_len (a + 1) n) in
    ⊎_elim
    (λ same. (xs, cond-true (test a) (a ∷ xs) xs (ap test same ∙ passes) ∙ ap (λ k. k ∷ xs) same))
    (λ differ.
    let rest = first_left test (a + 1) n x (omega (arith, differ)) (omega arith) passes (λ k b c. out k (omega arith) c) in
    (rest.0, cond-false (test a) (a ∷ xs) xs (out a (omega arith) (omega (arith, differ))) ∙ rest.1))
    (cases_eq a x)

-- the first page that waits, by the pools
pub first_read : (v : PoolsView) (ms : List Marks) (rest : Rest) (found : Option ℕ) → MatchOption found (HasNoUnswept v) (IsFirstInPools v)
    → MatchOption found ((view_with v ms rest).unswept ≡ []) (IsFirstUnswept (view_with v ms rest))
first_read v ms rest None none = none_left (unswept_at v) (range_with_len 0 (length v.pages)) none
first_read v ms rest (Some page) first =
    first_left (unswept_at v) 0 (length v.pages) page (omega arith) (let w = first.within in omega arith) first.is (λ k _ below. first.below k below)

-- how many wait, by the pools
pub count_read : (v : PoolsView) → unswept_count v ≡ length (unswept_in v)
count_read v =
    let xs : List ℕ = range_with_len 0 (length v.pages) in
    let long : length xs ≡ length v.pages = length-range_with_len 0 (length v.pages) in
    sym (length-filter (unswept_at v) xs
    ∙ same_counts (unswept_at v) is_unswept xs v.pages 0 spare_page long (λ k below.
    ap (unswept_at v) (get_or-range_with_len 0 (length v.pages) k 0 (omega arith) ∙ omega arith)))
