-- The slots of a page that a pool got, for the callers: which addresses they are, and that all else stays.
use Rattle.std.proofs.Common.{◌≡◌, ℕ, ◌*◌, ◌<◌, ◌≤◌, Bool, true, false, cond, length, refl, sym, ap, ◌∙◌, nat_eq, arith, Some}
use Rattle.std.proofs.lemmas.Bool.{and_parts, eqb-true}
use Rattle.std.proofs.lemmas.Bool.Decides.{nat_tests}
use Rattle.space_model.specs.Layout.{page_of, page_slots, slot_address}
use Rattle.space_heap.specs.HeapView.{PageView, HeapView, no_page, bytes_of, page_at, pool_at, is_unswept, slot_number, is_start, free_page, with_page}
use Rattle.space_heap.specs.FreeSlots.{IsFreeAt}
use Rattle.space_heap.proofs.Laws.{SameRest}
use Rattle.space_heap.proofs.NewPages.{page_at-with_page}
use Rattle.space_heap.proofs.NewPageLaws.{is_free_at-with_page_same}
use Rattle.space_heap.proofs.starts.Starts.{start_parts, start_from, address_start, start_address}

-- all but the pages stays
pub rest-with_page : (v : HeapView) (page pool : ℕ) → SameRest v (with_page v page pool)
unfolding with_page
rest-with_page v page pool = record { limit = refl; unswept = refl; grey = refl; phase = refl; cursor = refl; counters = refl }

pub pool_at-with_page : (v : HeapView) (page pool k : ℕ) → page ≤ length v.pages
    → pool_at (with_page v page pool) k ≡ cond (nat_eq k page) (Some pool) (pool_at v k)
pool_at-with_page v page pool k h = ap (λ (p : PageView). p.pool) (page_at-with_page v page pool k h) ∙ each (nat_eq k page)
  where
    each : (b : Bool) → (cond b (free_page pool) (page_at v k)).pool ≡ cond b (Some pool) (pool_at v k)
    each true = refl
    each false = refl

-- the address is that of a slot of the page, for the page's pool
pub record IsSlotOfPage (page pool q a : ℕ) : Type 0 where
  pub same : q ≡ pool
  pub slot : ℕ
  pub on_page : slot < page_slots pool
  pub is : a ≡ slot_address page pool slot

module _ (v : HeapView) (page pool : ℕ) (within : page ≤ length v.pages) (empty : page_at v page ≡ no_page) (swept : is_unswept v page ≡ false)
    (known : pool < 5) where
  -- each slot of the page is free
  pub slot_free : (slot : ℕ) → slot < page_slots pool → IsFreeAt (with_page v page pool) pool (slot_address page pool slot)
  slot_free slot low =
      let a : ℕ = slot_address page pool slot in
      let s = address_start pool page slot a known low refl in
      let start : is_start (Some pool) (page_slots pool) a ≡ true =
      start_from (Some pool) (page_slots pool) a s.0 (let n = s.2 in omega arith) (ap (λ k. bytes_of (Some pool) * k) s.2 ∙ s.3) in
      is_free_at-with_page_same v page pool within empty pool a s.1 swept ∙ grind (arith, nat_tests, start)

  -- and what is free on the page is one of them
  pub free_slot_is : (q a : ℕ) → page_of a ≡ page → IsFreeAt (with_page v page pool) q a → IsSlotOfPage page pool q a
  free_slot_is q a on free =
      let e = sym (is_free_at-with_page_same v page pool within empty q a on swept) ∙ free in
      let p = and_parts _ _ e in
      let q' = and_parts _ _ p.1 in
      let start = start_parts (Some pool) (page_slots pool) a p.0 in
      record {
        same = sym (eqb-true _ _ q'.0);
        slot = slot_number (Some pool) a;
        on_page = start.within;
        is = start_address pool (page_slots pool) a start ∙ ap (λ k. slot_address k pool (slot_number (Some pool) a)) on;
      }
