-- Where a walk goes on, in slots and in addresses.
use Rattle.std.proofs.Common.{◌≡◌, ⊎_elim, ℕ, zero, suc, ◌+◌, ◌*◌, ◌<◌, ◌≤◌, ◌↔◌, false, sym, ap, ◌∙◌, subst, arith, Option, None, Some}
use Rattle.std.proofs.lemmas.Bool.{cases_lt}
use Rattle.space_model.specs.Layout.{page_bytes, page_of, page_slots, slot_address, slot_bytes}
use Rattle.space_pools.specs.PoolsView.{pool_at as pools_pool}
use Rattle.space_heap.specs.declared.heap.Heap.TheInside.{Inside}
use Rattle.space_heap.specs.declared.heap.walking.Walk.{Walk}
use Rattle.space_heap.specs.declared.marks.Sought.TheVariants.{Gone}
use Rattle.space_heap.specs.HeapView.{HeapView, pool_at}
use Rattle.space_heap.specs.Inside.{view_from}
use Rattle.space_heap.specs.Sweeping.{is_gone}
use Rattle.space_heap.specs.Walks.{HasNoneOn, StartsFrom, IsWalkFrom, is_sought}
use Rattle.space_heap.proofs.fields.Views.{pool_read}
use Rattle.space_heap.proofs.walks.SlotWalks.{page_order}

-- slots are in the order of their addresses
pub in_order : (page pool s k : ℕ) → pool < 5 → (s ≤ k) ↔ (slot_address page pool s ≤ slot_address page pool k)
unfolding slot_address slot_bytes
in_order page zero s k known = (λ e. omega arith, λ e. omega arith)
in_order page (suc zero) s k known = (λ e. omega arith, λ e. omega arith)
in_order page (suc (suc zero)) s k known = (λ e. omega arith, λ e. omega arith)
in_order page (suc (suc (suc zero))) s k known = (λ e. omega arith, λ e. omega arith)
in_order page (suc (suc (suc (suc zero)))) s k known = (λ e. omega arith, λ e. omega arith)
in_order page (suc (suc (suc (suc (suc pool))))) s k known = absurd (omega arith)

-- those behind a slot start behind its address
behind : (page pool s k : ℕ) → pool < 5 → (s + 1 ≤ k) ↔ (slot_address page pool s + 1 ≤ slot_address page pool k)
unfolding slot_address slot_bytes
behind page zero s k known = (λ e. omega arith, λ e. omega arith)
behind page (suc zero) s k known = (λ e. omega arith, λ e. omega arith)
behind page (suc (suc zero)) s k known = (λ e. omega arith, λ e. omega arith)
behind page (suc (suc (suc zero))) s k known = (λ e. omega arith, λ e. omega arith)
behind page (suc (suc (suc (suc zero)))) s k known = (λ e. omega arith, λ e. omega arith)
behind page (suc (suc (suc (suc (suc pool))))) s k known = absurd (omega arith)

same_some : (a b : ℕ) → Some a ≡ Some b → a ≡ b
same_some a b e = cc

module _ (h : Inside) (v : HeapView) (view_is : view_from h ≡ v) (page pool : ℕ) (its : pools_pool h.pools page ≡ Some pool) where
  pub pool_seen : pool_at v page ≡ Some pool
  pool_seen = ap (λ (v : HeapView). pool_at v page) (sym view_is) ∙ pool_read h.pools h.marks.items page ∙ its

  same_pool : (other : ℕ) → pool_at v page ≡ Some other → pool ≡ other
  same_pool other e = same_some pool other (sym pool_seen ∙ e)

  pub starts_from : (start from : ℕ) → ((k : ℕ) → k < page_slots pool → (start ≤ k) ↔ (from ≤ slot_address page pool k)) → StartsFrom v page start from
  starts_from start from first other k e within =
      subst (λ pool. k < page_slots pool → (start ≤ k) ↔ (from ≤ slot_address page pool k)) (same_pool other e) (first k) within

  pub goes_on : (s a : ℕ) → pool < 5 → a ≡ slot_address page pool s → StartsFrom v page (s + 1) (a + 1)
  goes_on s a known is = starts_from (s + 1) (a + 1) (λ k within.
      subst (λ x. (s + 1 ≤ k) ↔ (x + 1 ≤ slot_address page pool k)) (sym is) (behind page pool s k known))

never_both : (o : Option ℕ) (pool : ℕ) → o ≡ None → o ≡ Some pool → ⊥
never_both o pool none some = cc

-- a spare page has no slots
pub starts_spare : (h : Inside) (v : HeapView) → view_from h ≡ v → (page : ℕ) → pools_pool h.pools page ≡ None → (start from : ℕ) → StartsFrom v page start from
starts_spare h v view_is page none start from pool k its within =
    absurd (never_both (pool_at v page) pool (ap (λ (v : HeapView). pool_at v page) (sym view_is) ∙ pool_read h.pools h.marks.items page ∙ none) its)

-- how far the walk from an address has come: nothing gone stands on the pages before
pub record IsWalkAt (v : HeapView) (page slot from : ℕ) : Type 0 where
  pub before : (b : ℕ) → from ≤ b → page_of b < page → is_gone v b ≡ false
  pub slots : StartsFrom v page slot from
  pub within : from ≤ page_bytes * (page + 2)

pub walk_begun : (v : HeapView) (walk : Walk) (from : ℕ) → IsWalkFrom v walk from → IsWalkAt v walk.page walk.slot from
walk_begun v walk from w = record {
  before = λ b there below. let a = w.after b there in absurd (omega arith);
  slots = w.slots;
  within = w.within;
}

-- where the page has none from there on
pub walk_more : (v : HeapView) (page slot from : ℕ) → HasNoneOn (is_sought Gone v) page from → IsWalkAt v page slot from → IsWalkAt v (page + 1) 0 from
unfolding slot_address
walk_more v page slot from none w = let before_end = w.within in record {
  before = λ b there below. ⊎_elim (λ lower. w.before b there lower) (λ upper. none b (omega arith) there) (cases_lt (page_of b) page);
  slots = λ pool k its within. (λ _. omega arith, λ _. omega arith);
  within = omega arith;
}

on_page : (page a : ℕ) → page_of a ≡ page → a + 1 ≤ page_bytes * (page + 2)
unfolding page_of
on_page page a e = grind (arith, e)

-- behind what was found
pub walk_behind : (v : HeapView) (walk : Walk) (a : ℕ) → page_of a ≡ walk.page → StartsFrom v walk.page walk.slot (a + 1) → IsWalkFrom v walk (a + 1)
walk_behind v walk a on slots = record {
  slots = slots;
  within = on_page walk.page a on;
  after = λ b there. let o = page_order b a (omega arith) in omega arith;
}

-- a walk from the start
pub walk_from_start : (v : HeapView) (walk : Walk) → walk.page ≡ 0 → walk.slot ≡ 0 → IsWalkFrom v walk 0
walk_from_start v walk page slot = record {
  slots = λ pool k its within. (λ _. omega arith, λ _. omega arith);
  within = omega arith;
  after = λ b there. omega arith;
}
