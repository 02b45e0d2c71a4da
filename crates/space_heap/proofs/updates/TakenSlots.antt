-- The slot that was taken for a new object.
use Rattle.std.proofs.Common.{◌≡◌, inl, inr, ⊎_elim, ℕ, ◌<◌, true, false, true≢false, List, length, sym, ap, ◌∙◌, subst, Option, Some}
use Rattle.std.proofs.lemmas.Bool.{cases_eq}
use Rattle.space_model.specs.Layout.{page_of}
use Rattle.space_model.specs.declared.object.Style.{Style}
use Rattle.space_pages.specs.Slots.{words_of}
use Rattle.space_pools.specs.PageSlots.{width_of}
use Rattle.space_pools.specs.PoolsView.{PoolsView, page_at, pool_at, free_at, used_at, found_at, with_slot_at}
use Rattle.space_pools.specs.Free.{TakesLeast}
use Rattle.space_pools.specs.Sound.{IsSoundPools}
use Rattle.space_pools.proofs.Places.{free_within, used_within}
use Rattle.space_pools.proofs.PoolLaws.{used_from_found, not_free_from_used}
use Rattle.space_heap.specs.HeapView.{slot_number, is_start}
use Rattle.space_heap.specs.words.ObjectWords.{object_words}
use Rattle.space_heap.specs.words.SlotPlaces.{is_slot_of, IsSlotAt, SlotChanged}
use Rattle.space_heap.proofs.fields.FreeReads.{free_place}
use Rattle.space_heap.proofs.updates.Changes.{slot_changed, changed_again}

-- slots start where they did
pub starts_stay : (v w : PoolsView) (page slot : ℕ) (found : Option (List ℕ)) (a : ℕ) → SlotChanged v w page slot found → is_slot_of w a ≡ is_slot_of v a
unfolding is_slot_of
starts_stay v w page slot found a h =
    ap (λ pool. is_start pool (length (page_at w (page_of a)).slots) a) (h.pools (page_of a))
    ∙ ap (λ n. is_start (pool_at v (page_of a)) n a) (h.slots (page_of a))

module _ (v w : PoolsView) (pool a : ℕ) (sound : IsSoundPools v) (known : pool < 5) (t : TakesLeast v w pool a) where
  here : t.found.free.slot < length (page_at v t.found.free.page).slots
  here = free_within (page_at v t.found.free.page) t.found.free.slot t.found.free.is_free

  at : IsSlotAt v a t.found.free.page t.found.free.slot
  at = free_place v pool t.found.free.page t.found.free.slot a sound known t.found.free.has_pool here t.found.free.is

  used_once : SlotChanged v w t.found.free.page t.found.free.slot (Some t.words)
  used_once = subst (λ w. SlotChanged v w t.found.free.page t.found.free.slot (Some t.words)) (sym t.becomes)
      (slot_changed v t.found.free.page t.found.free.slot (Some t.words) here)

  -- a slot that wasn't free is as before
  pub kept_found : (k i : ℕ) (words : List ℕ) → found_at v k i ≡ Some words → found_at w k i ≡ Some words
  kept_found k i words e = used_once.other k i (⊎_elim
      (λ same. inr (λ own. true≢false (sym t.found.free.is_free
      ∙ ap (free_at v t.found.free.page) (sym own)
      ∙ ap (λ p. free_at v p i) (sym same)
      ∙ not_free_from_used v k i (used_from_found v k i words e))))
      (λ differ. inl differ)
      (cases_eq k t.found.free.page)) ∙ e

  -- each page has its pool
  pub kept_pools : (k : ℕ) → pool_at w k ≡ pool_at v k
  kept_pools = used_once.pools

  pub never : is_slot_of w a ≡ false → ⊥
  never none = true≢false (sym at.is ∙ sym (starts_stay v w _ _ _ a used_once) ∙ none)

  module _ (page slot : ℕ) (p : IsSlotAt w a page slot) where
    page_is : page ≡ t.found.free.page
    page_is = p.on_page ∙ sym at.on_page

    in_old : slot ≡ slot_number (pool_at v (page_of a)) a
    in_old = p.in_slot ∙ ap (λ o. slot_number o a) (used_once.pools (page_of a))

    slot_is : slot ≡ t.found.free.slot
    slot_is = in_old ∙ sym at.in_slot

    pub free_was : free_at v page slot ≡ true
    free_was = ap (λ k. free_at v k slot) page_is ∙ ap (free_at v t.found.free.page) slot_is ∙ t.found.free.is_free

    pub own_pool : pool_at w page ≡ Some pool
    own_pool = used_once.pools page ∙ ap (pool_at v) page_is ∙ t.found.free.has_pool

    pub at_old : IsSlotAt v a page slot
    at_old = record { is = at.is; on_page = p.on_page; in_slot = in_old }

    once : SlotChanged v w page slot (Some t.words)
    once = subst (λ k. SlotChanged v w k slot (Some t.words)) (sym page_is) (subst (λ s. SlotChanged v w t.found.free.page s (Some t.words)) (sym slot_is)
        used_once)

    pub slot_used : used_at w page slot ≡ true
    slot_used = used_from_found w page slot t.words once.here

    width : width_of (pool_at w page) ≡ words_of pool
    width = ap width_of (once.pools page ∙ ap (pool_at v) page_is ∙ t.found.free.has_pool)

    pub new_slot : (u : PoolsView) (fields : ℕ) (style : Style) (name : ℕ)
        → u ≡ with_slot_at w page slot (Some (object_words (width_of (pool_at w page)) fields style name))
        → SlotChanged v u page slot (Some (object_words (words_of pool) fields style name))
    new_slot u fields style name is =
        subst (λ n. SlotChanged v u page slot (Some (object_words n fields style name))) width
        (subst (λ u. SlotChanged v u page slot (Some (object_words (width_of (pool_at w page)) fields style name))) (sym is)
        (changed_again v w page slot (Some t.words) (Some (object_words (width_of (pool_at w page)) fields style name)) once
        (used_within (page_at w page) slot slot_used)))

    pub filled_slot : (u : PoolsView) (words : List ℕ) → u ≡ with_slot_at w page slot (Some words) → SlotChanged v u page slot (Some words)
    filled_slot u words is =
        subst (λ u. SlotChanged v u page slot (Some words)) (sym is)
        (changed_again v w page slot (Some t.words) (Some words) once (used_within (page_at w page) slot slot_used))
