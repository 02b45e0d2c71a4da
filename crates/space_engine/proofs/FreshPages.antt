-- The pages after a pool got one, since no address was free for it.
use Rattle.std.proofs.Common.{◌≡◌, ℕ, ◌+◌, ◌<◌, ◌≤◌, List, length, cond, ap, ◌∙◌, sym, arith, nat_eq, Option, None, Some, ⊎_elim, inl, inr}
use Rattle.std.proofs.lemmas.Bool.{true≢false, cases_eq}
use Rattle.std.proofs.lemmas.Bool.Decides.{nat_tests}
use Rattle.std.proofs.lemmas.Grind.{common_steps}
use Rattle.space_model.specs.Layout.{page_of, page_slots, slot_address}
use Rattle.space_model.specs.Pages.{pool_at as pool_of_page, with_pool}
use Rattle.space_model.specs.Places.{IsFreshPage}
use Rattle.space_model.specs.State.{State}
use Rattle.space_model.proofs.PageLaws.{pool_at-with_pool}
use Rattle.space_heap.specs.HeapView.{PageView, HeapView, pool_at, with_page}
use Rattle.space_heap.specs.FreeSlots.{IsLeastFree}
use Rattle.space_heap.specs.NewPages.{IsLeastSpare}
use Rattle.space_heap.proofs.NewPages.{length-with_page}
use Rattle.space_heap.proofs.NewPageLaws.{is_free_at-with_page_other}
use Rattle.space_heap.proofs.NewPageSlots.{pool_at-with_page, slot_free, free_slot_is, rest-with_page}
use Rattle.space_heap.specs.Allocations.{GetsPage}
use Rattle.space_engine.specs.Stands.{Represents, HasPages}
use Rattle.space_engine.specs.Views.{View}
use Rattle.space_engine.proofs.Addresses.{slot_address-rises}

length-with_pool : (pages : List (Option ℕ)) (page pool : ℕ) → page ≤ length pages →
    length (with_pool pages page pool) ≡ cond (nat_eq page (length pages)) (length pages + 1) (length pages)
unfolding with_pool
length-with_pool pages page pool h = grind (arith, nat_tests, common_steps)

module _ (v : View) (s : State) (h : Represents v s) (page pool : ℕ) (g : GetsPage v.heap (with_page v.heap page pool) pool page) where
  abbrev w : HeapView
  w = with_page v.heap page pool

  abbrev pages' : List (Option ℕ)
  pages' = with_pool s.heap.pages page pool

  within : page ≤ length v.heap.pages
  within = ⊎_elim (λ (l : IsLeastSpare v.heap page). let lt = l.spare.0 in omega arith) (λ (none, next, below). omega arith) g.next

  within_state : page ≤ length s.heap.pages
  within_state = let c = h.heap.pages.count in let b = within in omega arith

  none_there : pool_of_page s.heap.pages page ≡ None
  none_there = h.heap.pages.pools page ∙ ap (λ (p : PageView). p.pool) g.empty

  fresh_pools : (k : ℕ) → pool_of_page pages' k ≡ pool_at w k
  fresh_pools k = pool_at-with_pool s.heap.pages page pool k within_state ∙ ap (cond (nat_eq k page) (Some pool)) (h.heap.pages.pools k)
      ∙ sym (pool_at-with_page v.heap page pool k within)

  pub fresh_pages : HasPages pages' s.heap.limit s.heap.unswept w
  fresh_pages = record {
    count = length-with_pool s.heap.pages page pool within_state ∙ ap (λ n. cond (nat_eq page n) (n + 1) n) h.heap.pages.count
        ∙ sym (length-with_page v.heap page pool within);
    pools = fresh_pools;
    limited = h.heap.pages.limited ∙ sym (rest-with_page v.heap page pool).limit;
    waiting = h.heap.pages.waiting ∙ sym (rest-with_page v.heap page pool).unswept;
  }

  -- the least free address is the first slot of the page
  pub first_of_page : pool < 5 → (a : ℕ) → 0 < page_slots pool → IsLeastFree w pool a → (page_of a ≡ page) × (a ≡ slot_address page pool 0)
  first_of_page known a some l =
      let on : page_of a ≡ page = ⊎_elim
      (λ same. same)
      (λ other. absurd (true≢false (sym l.free ∙ is_free_at-with_page_other v.heap page pool within g.empty pool a other ∙ g.none_free a)))
      (cases_eq (page_of a) page) in
      let i = free_slot_is v.heap page pool within g.empty g.swept known pool a on l.free in
      let low = l.least (slot_address page pool 0) (slot_free v.heap page pool within g.empty g.swept known 0 some) in
      let high = slot_address-rises page pool 0 i.slot (omega arith) in
      let is = i.is in
      (on, omega arith)

  -- the page is the one that the definitions give to the pool
  pub fresh_page : IsFreshPage s page
  fresh_page = ⊎_elim
      (λ (l : IsLeastSpare v.heap page). inl (
        (let c = h.heap.pages.count in let lt = l.spare.0 in omega arith, none_there),
        λ other spare. l.least other (let c = h.heap.pages.count in let lt = spare.0 in omega arith, sym (h.heap.pages.pools other) ∙ spare.1),
      ))
      (λ (none, next, below). inr (
        λ other spare. none other (let c = h.heap.pages.count in let lt = spare.0 in omega arith, sym (h.heap.pages.pools other) ∙ spare.1),
        next ∙ sym h.heap.pages.count,
        let l = h.heap.pages.limited in omega arith,
      ))
      g.next
