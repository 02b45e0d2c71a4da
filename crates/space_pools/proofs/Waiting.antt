-- Which pages wait for a sweep, after a page became another one.
use Rattle.std.proofs.Common.{◌≡◌, ◌≢◌, ⊎_elim, ℕ, ◌+◌, ◌-◌, ◌<◌, ◌≤◌, Bool, true, false, true≢false, cond, [], ◌∷◌, ◌++◌, length, refl, sym, ap, ◌∙◌, arith}
use mir.Val.{bool_byte}
use Rattle.std.proofs.lemmas.Bool.{cases_eq, cases_lt}
use Rattle.std.proofs.lemmas.List.{get_or_past, get_or_append_left, get_or_push, length-append}
use Rattle.std.proofs.lemmas.List.Sums.{sum_by-set, sum_by-append}
use Rattle.space_pools.specs.PageSlots.{PageSlots, spare_page, free_page}
use Rattle.space_pools.specs.PoolsView.{PoolsView, unswept_at, with_page}
use Rattle.space_pools.specs.Unswept.{unswept_count, AreUnswept, IsNextUnswept, IsFirstUnswept, HasNoUnswept}
use Rattle.space_pools.proofs.PoolLaws.{page_at-with_page_same, page_at-with_page_other}

abbrev pub one_if : Bool → ℕ
one_if b = cond b 1 0

-- the number that the code makes of a bool
pub byte_is : (b : Bool) → bool_byte b ≡ one_if b
byte_is true = refl
byte_is false = refl

abbrev one : PageSlots → ℕ
one p = one_if p.unswept

pub past_waits : (v : PoolsView) (page : ℕ) → length v.pages ≤ page → unswept_at v page ≡ false
past_waits v page past = ap (λ (p : PageSlots). p.unswept) (get_or_past v.pages page spare_page past)

-- a page that waits is there
pub waits_within : (v : PoolsView) (page : ℕ) → unswept_at v page ≡ true → page < length v.pages
waits_within v page waits = ⊎_elim
    (λ within. within)
    (λ past. absurd (true≢false (sym waits ∙ past_waits v page past)))
    (cases_lt page (length v.pages))

pub first_from_kept : (v : PoolsView) (first count : ℕ) → AreUnswept v first count → first < v.limit → IsFirstUnswept v first
first_from_kept v first count h below = record { within = waits_within v first (h.waits below); is = h.waits below; below = h.below }

pub none_from_kept : (v : PoolsView) (first count : ℕ) → AreUnswept v first count → length v.pages ≤ v.limit → v.limit ≤ first → HasNoUnswept v
none_from_kept v first count h few past page = ⊎_elim
    (λ within. h.below page (omega arith))
    (λ past. past_waits v page past)
    (cases_lt page (length v.pages))

-- one page became another one
module _ (v : PoolsView) (page : ℕ) (q : PageSlots) (here : page < length v.pages) where
  abbrev w : PoolsView
  w = with_page v page q

  pub unswept_same : unswept_at w page ≡ q.unswept
  unswept_same = ap (λ (p : PageSlots). p.unswept) (page_at-with_page_same v page q here)

  pub unswept_other : (k : ℕ) → k ≢ page → unswept_at w k ≡ unswept_at v k
  unswept_other k differ = ap (λ (p : PageSlots). p.unswept) (page_at-with_page_other v page k q differ)

  pub count_with : unswept_count w + one_if (unswept_at v page) ≡ unswept_count v + one_if q.unswept
  count_with = sum_by-set one v.pages page q spare_page here

  -- it waits as before
  pub waiting_kept : (first count : ℕ) → q.unswept ≡ unswept_at v page → AreUnswept v first count → AreUnswept w first count
  waiting_kept first count same h = record {
    counted = let c = count_with in let e : one_if q.unswept ≡ one_if (unswept_at v page) = ap one_if same in let k = h.counted in omega arith;
    below = λ k b. agree k ∙ h.below k b;
    most = h.most;
    waits = λ b. agree first ∙ h.waits b;
  }
    where
      agree : (k : ℕ) → unswept_at w k ≡ unswept_at v k
      agree k = ⊎_elim
          (λ e. ap (unswept_at w) e ∙ unswept_same ∙ same ∙ ap (unswept_at v) (sym e))
          (λ differ. unswept_other k differ)
          (cases_eq k page)

  -- it waits no more, and the cursor went on to the next page that waits
  pub waiting_left : (first next count less : ℕ) → q.unswept ≡ false → IsNextUnswept w first next → less ≡ one_if (unswept_at v page) → AreUnswept v first count
      → AreUnswept w next (count - less)
  waiting_left first next count less swept n is h = record {
    counted =
        let c = count_with in
        let e : one_if q.unswept ≡ 0 = ap one_if swept in
        let k = h.counted in
        omega arith;
    below = λ k b. ⊎_elim (λ before. under k before) (λ after. n.between k after b) (cases_lt k first);
    most = n.most;
    waits = n.waits;
  }
    where
      under : (k : ℕ) → k < first → unswept_at w k ≡ false
      under k b = ⊎_elim (λ e. ap (unswept_at w) e ∙ unswept_same ∙ swept) (λ differ. unswept_other k differ ∙ h.below k b) (cases_eq k page)

-- one page more, which doesn't wait
pub waiting_pushed : (v : PoolsView) (pool first count : ℕ) → AreUnswept v first count → AreUnswept (record v { pages = v.pages ++ free_page pool ∷ [] }) first count
waiting_pushed v pool first count h =
    let w : PoolsView = record v { pages = v.pages ++ free_page pool ∷ [] } in
    let same : (k : ℕ) → unswept_at w k ≡ unswept_at v k = λ k. ⊎_elim
    (λ within. ap (λ (p : PageSlots). p.unswept) (get_or_append_left v.pages (free_page pool ∷ []) spare_page k within))
    (λ past. ⊎_elim
    (λ last. ap (λ (p : PageSlots). p.unswept) (get_or_push v.pages (free_page pool) spare_page k (sym last)) ∙ sym (past_waits v k past))
    (λ beyond. past_waits w k (let l = length-append v.pages (free_page pool ∷ []) in omega (arith, beyond)) ∙ sym (past_waits v k past))
    (cases_eq k (length v.pages)))
    (cases_lt k (length v.pages)) in
    record {
      counted = let c : unswept_count w ≡ unswept_count v + 0 = sum_by-append one v.pages (free_page pool ∷ []) in let k = h.counted in omega arith;
      below = λ k b. same k ∙ h.below k b;
      most = h.most;
      waits = λ b. same first ∙ h.waits b;
    }
