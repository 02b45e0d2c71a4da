-- What holds of the pools still holds after a slot was lent, and what a new page makes of them.
use Rattle.std.proofs.Common.{◌≡◌, ⊎_elim, ℕ, ◌+◌, ◌-◌, ◌<◌, ◌≤◌, Bool, true, false, cond, List, [], ◌∷◌, ◌++◌, length, set, get_or, refl, sym, ap, ◌∙◌, subst, arith, nat_lt, Some}
use Rattle.std.specs.Vec.{with_item}
use Rattle.std.specs.Prelude.{is_none}
use Rattle.std.proofs.lemmas.Bool.{cases_eq, cond-true, cond-false}
use Rattle.std.proofs.lemmas.Bool.Decides.{nat_tests}
use Rattle.std.proofs.lemmas.List.{length-set, get_or-set_same, get_or-set_other}
use Rattle.std.proofs.lemmas.List.Sums.{sum_by-set}
use Rattle.space_pools.specs.PageSlots.{PageSlots, spare_page, free_page, free_in, written_in, freed_in}
use Rattle.space_pools.specs.PoolsView.{PoolsView, page_at, pool_at, unswept_at, with_page, written_at}
use Rattle.space_pools.specs.Spare.{is_spare, spare_count, with_free_page}
use Rattle.space_pools.specs.Unswept.{AreUnswept, IsNextUnswept}
use Rattle.space_pools.specs.Sound.{IsSoundPage, IsSoundPools}
use Rattle.space_pools.specs.InsidePools.{AreFullBelow, view_from, ArePools}
use Rattle.space_pools.specs.declared.pools.Pools.TheInside.{Inside}
use Rattle.space_pools.proofs.PoolLaws.{page_at-with_page_same, page_at-with_page_other}
use Rattle.space_pools.proofs.Waiting.{one_if, waiting_kept, waiting_left}
use Rattle.space_pools.proofs.Freed.{pool_freed, swept_freed, length-freed_in, freed_words}
use Rattle.space_pools.proofs.Written.{pool_written, free_written, unswept_written, sound_written}

pub sound_with_page : (v : PoolsView) (page : ℕ) (p : PageSlots) → page < length v.pages → IsSoundPage p → IsSoundPools v → IsSoundPools (with_page v page p)
sound_with_page v page p within its h = record {
  some = h.some;
  most = h.most;
  limited = let l = length-set v.pages page p in let m = h.limited in omega arith;
  sound = λ k. ⊎_elim
      (λ same. subst IsSoundPage (sym (ap (page_at (with_page v page p)) same ∙ page_at-with_page_same v page p within)) its)
      (λ other. subst IsSoundPage (sym (page_at-with_page_other v page k p other)) (h.sound k))
      (cases_eq k page);
}

abbrev one : PageSlots → ℕ
one p = cond (is_spare p) 1 0

module _ (v : PoolsView) (page slot : ℕ) (ws : List ℕ) (here : page < length v.pages) where
  abbrev w : PoolsView
  w = written_at v page slot ws

  pub sound_written_at : IsSoundPools v → IsSoundPools w
  sound_written_at h = sound_with_page v page (written_in (page_at v page) slot ws) here (sound_written (page_at v page) slot ws (h.sound page)) h

  same_pool : (k : ℕ) → pool_at w k ≡ pool_at v k
  same_pool k = ⊎_elim
      (λ same. ap (λ (p : PageSlots). p.pool) (ap (page_at w) same ∙ page_at-with_page_same v page (written_in (page_at v page) slot ws) here)
      ∙ pool_written (page_at v page) slot ws ∙ ap (pool_at v) (sym same))
      (λ other. ap (λ (p : PageSlots). p.pool) (page_at-with_page_other v page k (written_in (page_at v page) slot ws) other))
      (cases_eq k page)

  same_free : (k i : ℕ) → free_in (page_at w k) i ≡ free_in (page_at v k) i
  same_free k i = ⊎_elim
      (λ same. ap (λ p. free_in p i) (ap (page_at w) same ∙ page_at-with_page_same v page (written_in (page_at v page) slot ws) here)
      ∙ free_written (page_at v page) slot ws i ∙ ap (λ k. free_in (page_at v k) i) (sym same))
      (λ other. ap (λ p. free_in p i) (page_at-with_page_other v page k (written_in (page_at v page) slot ws) other))
      (cases_eq k page)

  same_unswept : (k : ℕ) → unswept_at w k ≡ unswept_at v k
  same_unswept k = ⊎_elim
      (λ same. ap (λ (p : PageSlots). p.unswept) (ap (page_at w) same ∙ page_at-with_page_same v page (written_in (page_at v page) slot ws) here)
      ∙ unswept_written (page_at v page) slot ws ∙ ap (unswept_at v) (sym same))
      (λ other. ap (λ (p : PageSlots). p.unswept) (page_at-with_page_other v page k (written_in (page_at v page) slot ws) other))
      (cases_eq k page)

  pub full_written_at : (cursors : List ℕ) → AreFullBelow v cursors → AreFullBelow w cursors
  full_written_at cursors h pool k below its i swept = same_free k i ∙ h pool k below (sym (same_pool k) ∙ its) i (sym (same_unswept k) ∙ swept)

  pub waiting_written_at : (first count : ℕ) → AreUnswept v first count → AreUnswept w first count
  waiting_written_at first count h = waiting_kept v page (written_in (page_at v page) slot ws) here first count (unswept_written (page_at v page) slot ws) h

  pub spares_written_at : spare_count w ≡ spare_count v
  spares_written_at =
      let q : PageSlots = written_in (page_at v page) slot ws in
      let s : spare_count w + one (page_at v page) ≡ spare_count v + one q = sum_by-set one v.pages page q spare_page here in
      let e : one q ≡ one (page_at v page) = ap (λ pool. cond (is_none pool) 1 0) (pool_written (page_at v page) slot ws) in
      omega (arith, s, e)

-- a page of its own becomes one of the pool
pub own_page : (v : PoolsView) (page pool : ℕ) → page < length v.pages → with_free_page v page pool ≡ with_page v page (free_page pool)
unfolding with_free_page
own_page v page pool within =
    let e : nat_lt page (length v.pages) ≡ true = grind (arith, nat_tests) in
    λ i. record { limit = v.limit; pages = cond-true (nat_lt page (length v.pages)) (set v.pages page (free_page pool)) (v.pages ++ free_page pool ∷ []) e i }

-- the next page makes one more
pub next_page : (v : PoolsView) (pool : ℕ) → with_free_page v (length v.pages) pool ≡ record v { pages = v.pages ++ free_page pool ∷ [] }
unfolding with_free_page
next_page v pool =
    let e : nat_lt (length v.pages) (length v.pages) ≡ false = grind (arith, nat_tests) in
    λ i. record {
      limit = v.limit;
      pages = cond-false (nat_lt (length v.pages) (length v.pages)) (set v.pages (length v.pages) (free_page pool))
          (v.pages ++ free_page pool ∷ []) e i;
    }

same_some : (a b : ℕ) → Some a ≡ Some b → a ≡ b
same_some a b e = cc

-- the pools after a page became another one of the pool, and the pool's cursor was lowered to it
module _ (v : PoolsView) (page pool : ℕ) (q : PageSlots) (here : page < length v.pages) (its : q.pool ≡ Some pool) (cursors : List ℕ) (least : ℕ)
    (known : pool < length cursors) where
  lowered : (k other : ℕ) → least ≤ get_or cursors pool 0 → k < get_or (set cursors pool least) other 0 → k < get_or cursors other 0
  lowered k other lower below = ⊎_elim
      (λ same. let e : get_or (set cursors pool least) other 0 ≡ least = ap (λ x. get_or (set cursors pool least) x 0) same
      ∙ get_or-set_same cursors pool least 0 known in let f : get_or cursors other 0 ≡ get_or cursors pool 0 = ap (λ x. get_or cursors x 0) same in
      omega arith)
      (λ differ. let e : get_or (set cursors pool least) other 0 ≡ get_or cursors other 0 = get_or-set_other cursors pool other least 0 differ in omega arith)
      (cases_eq other pool)

  pub full_lowered : least ≤ get_or cursors pool 0 → least ≤ page → AreFullBelow v cursors → AreFullBelow (with_page v page q) (set cursors pool least)
  full_lowered lower at h other k below own i swept = ⊎_elim
      (λ same.
      let o : other ≡ pool = same_some other pool (sym own ∙ ap (pool_at (with_page v page q)) same
      ∙ ap (λ (p : PageSlots). p.pool) (page_at-with_page_same v page q here) ∙ its) in
      let e : get_or (set cursors pool least) other 0 ≡ least = ap (λ x. get_or (set cursors pool least) x 0) o ∙ get_or-set_same cursors pool least 0 known in
      absurd (omega arith))
      (λ differ.
      let e : page_at (with_page v page q) k ≡ page_at v k = page_at-with_page_other v page k q differ in
      ap (λ p. free_in p i) e ∙ h other k (lowered k other lower below) (sym (ap (λ (p : PageSlots). p.pool) e) ∙ own) i
      (sym (ap (λ (p : PageSlots). p.unswept) e) ∙ swept))
      (cases_eq k page)

  pub spares_same : pool_at v page ≡ Some pool → spare_count (with_page v page q) ≡ spare_count v
  spares_same was =
      let s : spare_count (with_page v page q) + one (page_at v page) ≡ spare_count v + one q = sum_by-set one v.pages page q spare_page here in
      let e : one q ≡ one (page_at v page) = ap (λ pool. cond (is_none pool) 1 0) (its ∙ sym was) in
      omega (arith, s, e)

sound_freed : (p : PageSlots) (free : List Bool) (pool : ℕ) → p.pool ≡ Some pool → IsSoundPage p → IsSoundPage (freed_in p free)
unfolding freed_in
sound_freed p free pool its h = record {
  known = h.known;
  long = length-freed_in p free ∙ h.long;
  wide = λ slot words e. h.wide slot words (freed_words p free slot words e);
  swept = λ e. refl;
}

-- what holds of the pools after the slots of a plane became free on a page
pub freed_pools : (h : Inside) (page pool least next less : ℕ) (free : List Bool) (p : PageSlots) → ArePools h → page < length h.pages.items
    → pool_at (view_from h) page ≡ Some pool → pool < length h.cursors → least ≤ get_or h.cursors pool 0 → least ≤ page
    → IsNextUnswept (with_page (view_from h) page p) h.first_unswept next → less ≡ one_if (unswept_at (view_from h) page)
    → p ≡ freed_in (page_at (view_from h) page) free
    → ArePools (record h { pages = with_item h.pages page p; cursors = set h.cursors pool least; first_unswept = next; unswept = h.unswept - less })
freed_pools h page pool least next less free p known here its within lower at next_is less_is is =
    let v = view_from h in
    let pool_is : p.pool ≡ Some pool = ap (λ (p : PageSlots). p.pool) is ∙ pool_freed (page_at v page) free ∙ its in
    let swept : p.unswept ≡ false = ap (λ (p : PageSlots). p.unswept) is ∙ swept_freed (page_at v page) free in
    record {
      sound = sound_with_page v page p here (subst IsSoundPage (sym is) (sound_freed (page_at v page) free pool its (known.sound.sound page))) known.sound;
      room = known.room;
      spares = known.spares ∙ sym (spares_same v page pool p here pool_is h.cursors least within its);
      waiting = waiting_left v page p here h.first_unswept next h.unswept less swept next_is less_is known.waiting;
      full = full_lowered v page pool p here pool_is h.cursors least within lower at known.full;
    }
