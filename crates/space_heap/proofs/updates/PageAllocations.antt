-- Allocations on a page that the pool got.
use Rattle.std.proofs.Common.{◌≡◌, ℕ, ◌+◌, ◌^◌, ◌<◌, ◌≤◌, length, true≢false, false, ap, ◌∙◌, sym, arith, ⊎_elim, inr}
use Rattle.std.proofs.lemmas.Bool.Decides.{nat_tests}
use Rattle.space_model.specs.declared.object.Guard.{Guard}
use Rattle.space_model.specs.declared.object.Style.{Style}
use Rattle.space_model.specs.Layout.{page_slots, pool_for, slot_address, slot_bytes}
use Rattle.space_heap.specs.Slots.{new_object}
use Rattle.space_heap.specs.HeapView.{Counters, HeapView, no_page, page_at, is_unswept, with_page}
use Rattle.space_heap.specs.Objects.{placed}
use Rattle.space_heap.specs.FreeSlots.{is_free_at, IsLeastFree, HasNoFree}
use Rattle.space_heap.specs.NewPages.{IsLeastSpare, IsNextPage, IsOutOfPages}
use Rattle.space_heap.specs.Allocations.{IsAllocation}
use Rattle.space_heap.proofs.updates.WordLaws.{pool_known}
use Rattle.space_heap.proofs.NewPageSlots.{rest-with_page, slot_free}

has_slot : (fields : ℕ) → 0 < page_slots (pool_for fields)
unfolding page_slots pool_for slot_bytes
has_slot fields = grind (arith, nat_tests)

-- a page changes no count
pub count_kept : (v w : HeapView) (page pool : ℕ) → w ≡ with_page v page pool → v.counters.born < 2 ^ 62 → w.counters.born < 2 ^ 62
count_kept v w page pool e h = rw (e, (rest-with_page v page pool).counters) h

within_next : (v : HeapView) (page : ℕ) → IsNextPage v page → page ≤ length v.pages
within_next v page next = ⊎_elim (λ (x : IsLeastSpare v page). let lt = x.spare.0 in omega arith) (λ (none, next, below). omega arith) next

-- the page has a free address
pub has_free : (v w : HeapView) (fields page pool : ℕ) → IsNextPage v page → page_at v page ≡ no_page → is_unswept v page ≡ false → pool ≡ pool_for fields
    → w ≡ with_page v page pool → HasNoFree w (pool_for fields) → ⊥
has_free v w fields page _ next empty swept its e none =
    let free = slot_free v page (pool_for fields) (within_next v page next) empty swept (pool_known fields) 0 (has_slot fields) in
    true≢false (sym free ∙ ap (λ w. is_free_at w (pool_for fields) (slot_address page (pool_for fields) 0)) (sym (e ∙ ap (with_page v page) its))
    ∙ none (slot_address page (pool_for fields) 0))

-- an allocation on the page
pub allocated_on_page : (v u w : HeapView) (fields : ℕ) (guard : Guard) (style : Style) (page pool name a : ℕ) → HasNoFree v (pool_for fields)
    → IsNextPage v page → page_at v page ≡ no_page → is_unswept v page ≡ false → pool ≡ pool_for fields →
    u ≡ with_page v page pool → IsLeastFree u (pool_for fields) a → name ≡ u.counters.born + 1 → w ≡ placed u a (new_object name fields guard style)
    → IsAllocation v w fields guard style name a
allocated_on_page v u w fields guard style page pool name a none next empty swept its e least named becomes = record {
  prepared = u;
  room = inr (page, record { none_free = none; next = next; empty = empty; swept = swept; becomes = e ∙ ap (with_page v page) its });
  least = least;
  named = named ∙ ap (λ (u : HeapView). u.counters.born + 1) e ∙ ap (λ (c : Counters). c.born + 1) (rest-with_page v page pool).counters;
  becomes = becomes;
}

-- a pool that gets a page isn't at the limit
pub not_at_limit : (v : HeapView) (page : ℕ) → IsNextPage v page → IsOutOfPages v → ⊥
not_at_limit v page next (none, full) = ⊎_elim (λ (x : IsLeastSpare v page). none page x.spare) (λ (none, next, below). omega arith) next
