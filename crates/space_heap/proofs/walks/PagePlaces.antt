-- The slots of a page with a pool, by their numbers and by their addresses.
use Rattle.std.proofs.Common.{◌≡◌, ⊎_elim, ℕ, ◌<◌, ◌≤◌, Bool, true, false, length, sym, ap, ◌∙◌, subst, arith, Some}
use Rattle.std.proofs.lemmas.Bool.{cases_Bool, cases_lt}
use Rattle.std.proofs.Math.Nat.{mul-le-mul_left}
use Rattle.space_model.specs.Layout.{page_of, page_slots, slot_address, slot_bytes}
use Rattle.space_pools.specs.PoolsView.{PoolsView, page_at, pool_at}
use Rattle.space_pools.specs.Sound.{IsSoundPools}
use Rattle.space_pools.proofs.Places as places
use Rattle.space_heap.specs.HeapView.{slot_number}
use Rattle.space_heap.specs.words.SlotPlaces.{is_slot_of, IsSlotAt}
use Rattle.space_heap.proofs.starts.Starts.{Start, start_parts, start_address}
use Rattle.space_heap.proofs.fields.Readers.{slot_within}

-- slots are in the order of their addresses
order : (page pool s t : ℕ) → s ≤ t → slot_address page pool s ≤ slot_address page pool t
unfolding slot_address
order page pool s t below = let o = mul-le-mul_left {m = s} {n = t} (slot_bytes pool) below in omega arith

module _ (v : PoolsView) (page pool : ℕ) (sound : IsSoundPools v) (its : pool_at v page ≡ Some pool) (a : ℕ) (on : page_of a ≡ page) where
  at_slot : is_slot_of v a ≡ true → IsSlotAt v a page (slot_number (Some pool) a)
  at_slot is = record { is = is; on_page = sym on; in_slot = ap (λ o. slot_number o a) (sym (ap (pool_at v) on ∙ its)) }

  pub address_is : is_slot_of v a ≡ true → a ≡ slot_address page pool (slot_number (Some pool) a)
  unfolding is_slot_of
  address_is is =
      let s = start_parts (pool_at v (page_of a)) (length (page_at v (page_of a)).slots) a is in
      start_address pool (length (page_at v (page_of a)).slots) a (subst (λ o. Start o (length (page_at v (page_of a)).slots) a) (ap (pool_at v) on ∙ its) s)
      ∙ ap (λ k. slot_address k pool (slot_number (Some pool) a)) on

  pub few : is_slot_of v a ≡ true → slot_number (Some pool) a < page_slots pool
  few is = places.slot_within v pool page (slot_number (Some pool) a) sound its (slot_within v a page (slot_number (Some pool) a) (at_slot is))

  -- `named` tells it of addresses, and `held` of the slots of the page: an address whose slot doesn't hold it
  pub absent_at : (named held : ℕ → Bool) → ((a : ℕ) → is_slot_of v a ≡ false → named a ≡ false)
      → ((a slot : ℕ) → IsSlotAt v a page slot → named a ≡ held slot) → (is_slot_of v a ≡ true → held (slot_number (Some pool) a) ≡ false) → named a ≡ false
  absent_at named held none read absent = ⊎_elim
      (λ is. read a (slot_number (Some pool) a) (at_slot is) ∙ absent is)
      (λ out. none a out)
      (cases_Bool (is_slot_of v a))

  -- of two slots the one at the lower address is the lower one
  pub lower : (s : ℕ) → is_slot_of v a ≡ true → a < slot_address page pool s → slot_number (Some pool) a < s
  lower s is below = ⊎_elim
      (λ l. l)
      (λ past. let o = order page pool s (slot_number (Some pool) a) past in let e = address_is is in absurd (omega arith))
      (cases_lt (slot_number (Some pool) a) s)

  -- and the one at the higher address is the higher one
  pub higher : (s : ℕ) → is_slot_of v a ≡ true → slot_address page pool s < a → s < slot_number (Some pool) a
  higher s is above = ⊎_elim
      (λ l. l)
      (λ past. let o = order page pool (slot_number (Some pool) a) s past in let e = address_is is in absurd (omega arith))
      (cases_lt s (slot_number (Some pool) a))
