-- The pages that wait for a sweep, by the pools.
use Rattle.std.proofs.Common.{◌≡◌, ⊎_elim, ℕ, zero, suc, ◌+◌, ◌≤◌, Bool, false, ◌&&◌, cond, List, [], ◌∷◌, length, refl, sym, ap, ◌∙◌, arith, nat_eq, nat_le, nat_lt}
use Rattle.std.specs.List.{range_with_len, filter}
use Rattle.std.specs.Set.{is_member}
use Rattle.std.proofs.lemmas.Bool.{cases_eq, cases_lt, cond-true, cond-false}
use Rattle.std.proofs.lemmas.Bool.Decides.{nat_tests}
use Rattle.std.proofs.lemmas.List.{get_or_past}
use Rattle.space_model.proofs.Members.{member_filter}
use Rattle.space_pools.specs.PageSlots.{PageSlots, spare_page, free_page}
use Rattle.space_pools.specs.PoolsView.{PoolsView, page_at, unswept_at}
use Rattle.space_pools.specs.Spare.{with_free_page}
use Rattle.space_pools.proofs.PoolLaws.{page_at-with_free_page, length-with_free_page}
use Rattle.space_heap.specs.Inside.{unswept_in}
use Rattle.space_heap.proofs.fields.Views.{length-pages_from}

-- the numbers from a on
pub member_range : (a n k : ℕ) → is_member nat_eq (range_with_len a n) k ≡ (nat_le a k && nat_lt k (a + n))
member_range a zero k = grind (arith, nat_tests)
member_range a (suc n) k = grind (arith, nat_tests, member_range (a + 1) n k)

pub past_unswept : (v : PoolsView) (k : ℕ) → length v.pages ≤ k → unswept_at v k ≡ false
past_unswept v k past = ap (λ (p : PageSlots). p.unswept) (get_or_past v.pages k spare_page past)

-- a page waits in the list where it does in the pools
pub unswept_read : (v : PoolsView) (k : ℕ) → is_member nat_eq (unswept_in v) k ≡ unswept_at v k
unswept_read v k =
    let m = member_filter (unswept_at v) (range_with_len 0 (length v.pages)) k in
    let r = member_range 0 (length v.pages) k in
    ⊎_elim
    (λ within. grind (arith, nat_tests, m, r))
    (λ past. grind (arith, nat_tests, m, r, past_unswept v k past))
    (cases_lt k (length v.pages))

-- tests that agree leave the same
pub same_filter : (p q : ℕ → Bool) (xs : List ℕ) → ((k : ℕ) → p k ≡ q k) → filter p xs ≡ filter q xs
same_filter p q [] agree = refl
same_filter p q (x ∷ xs) agree = let rest = same_filter p q xs agree in let here = agree x in cc

pub same_unswept : (v w : PoolsView) → length w.pages ≡ length v.pages → ((k : ℕ) → unswept_at w k ≡ unswept_at v k) → unswept_in w ≡ unswept_in v
same_unswept v w long agree =
    same_filter (unswept_at w) (unswept_at v) (range_with_len 0 (length w.pages)) agree ∙ ap (λ n. filter (unswept_at v) (range_with_len 0 n)) long

-- one more number, which the test leaves out
one_more : (p : ℕ → Bool) (a n : ℕ) → p (a + n) ≡ false → filter p (range_with_len a (n + 1)) ≡ filter p (range_with_len a n)
one_more p a zero out =
    let e : a + 0 ≡ a = omega arith in
    let o : p a ≡ false = ap p (sym e) ∙ out in
    cond-false (p a) (a ∷ []) [] o
one_more p a (suc n) out =
    let e : a + 1 + n ≡ a + suc n = omega arith in
    let next : suc n + 1 ≡ suc (n + 1) = omega arith in
    ap (λ m. filter p (range_with_len a m)) next ∙ ap (λ xs. cond (p a) (a ∷ xs) xs) (one_more p (a + 1) n (ap p e ∙ out))

-- a page that didn't wait became one whose slots are free
pub unswept_added : (v : PoolsView) (page pool : ℕ) → page ≤ length v.pages → unswept_at v page ≡ false → unswept_in (with_free_page v page pool) ≡ unswept_in v
unswept_added v page pool within swept =
    let w : PoolsView = with_free_page v page pool in
    let agree : (k : ℕ) → unswept_at w k ≡ unswept_at v k = λ k. ap (λ (p : PageSlots). p.unswept) (page_at-with_free_page v page pool k within) ∙ ⊎_elim
    (λ same. ap (λ (p : PageSlots). p.unswept) (cond-true (nat_eq k page) (free_page pool) (page_at v k) (grind (arith, nat_tests)))
    ∙ sym (ap (unswept_at v) same ∙ swept))
    (λ differ. ap (λ (p : PageSlots). p.unswept) (cond-false (nat_eq k page) (free_page pool) (page_at v k) (grind (arith, nat_tests))))
    (cases_eq k page) in
    ⊎_elim
    (λ last.
    let long : length w.pages ≡ length v.pages + 1 = length-with_free_page v page pool within
    ∙ cond-true (nat_eq page (length v.pages)) (length v.pages + 1) (length v.pages) (grind (arith, nat_tests)) in
    same_filter (unswept_at w) (unswept_at v) (range_with_len 0 (length w.pages)) agree
    ∙ ap (λ n. filter (unswept_at v) (range_with_len 0 n)) long
    ∙ one_more (unswept_at v) 0 (length v.pages) (let e : 0 + length v.pages ≡ length v.pages = omega arith in
    past_unswept v (0 + length v.pages) (omega arith)))
    (λ other. same_unswept v w (length-with_free_page v page pool within
    ∙ cond-false (nat_eq page (length v.pages)) (length v.pages + 1) (length v.pages) (grind (arith, nat_tests))) agree)
    (cases_eq page (length v.pages))

pub ruleset waiting = (length-pages_from, unswept_read)
