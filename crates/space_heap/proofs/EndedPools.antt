-- When a page is spare after the end of the moves, for the callers.
use Rattle.std.proofs.Common.{◌≡◌, ℕ, true, false, not, map, refl, ap, ◌∙◌, None}
use Rattle.std.specs.List.{list_all}
use Rattle.std.proofs.lemmas.Bool.{cond-false}
use Rattle.space_model.specs.Layout.{page_of}
use Rattle.space_heap.specs.Slots.{SlotView, Free, Moved, Object, has_object, is_free}
use Rattle.space_heap.specs.HeapView.{HeapView, page_at, pool_at, slot_at}
use Rattle.space_heap.specs.Objects.{is_occupied}
use Rattle.space_heap.specs.SoundHeap.{IsSoundHeap}
use Rattle.space_heap.specs.Relocation.{ended_slot, ended}
use Rattle.space_heap.proofs.ObjectLaws.{slot_from_occupied}
use Rattle.space_heap.proofs.SweptPages.{some_used, all_unused}
use Rattle.space_heap.proofs.EndedLaws.{pool_at-ended}

free_ended : (s : SlotView) → is_free (ended_slot s) ≡ not (has_object s)
free_ended Free = refl
free_ended (Moved to) = refl
free_ended (Object o) = refl

module _ (v : HeapView) (page : ℕ) where
  -- a page on which an object stands, gone or not, keeps its pool
  pub pool_at-ended_kept : (a : ℕ) → page_of a ≡ page → is_occupied v a ≡ true → pool_at (ended v) page ≡ pool_at v page
  unfolding is_occupied
  pool_at-ended_kept a on is = pool_at-ended v page ∙ cond-false (list_all is_free (map ended_slot (page_at v page).slots)) None (pool_at v page)
      (some_used v page ended_slot refl a on (slot_from_occupied v a is) (free_ended (slot_at v a) ∙ ap not is))

  -- and any other is spare
  pub pool_at-ended_spare : IsSoundHeap v → ((a : ℕ) → page_of a ≡ page → is_occupied v a ≡ false) → pool_at (ended v) page ≡ None
  unfolding is_occupied
  pool_at-ended_spare sound none = pool_at-ended v page
      ∙ all_unused v page ended_slot refl sound (λ a on. free_ended (slot_at v a) ∙ ap not (none a on))
