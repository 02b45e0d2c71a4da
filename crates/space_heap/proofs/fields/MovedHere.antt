-- What a heap's fields tell of an object that is moved, in words of its view.
use Rattle.std.proofs.Common.{◌≡◌, ℕ, true, sym, ap, ◌∙◌, subst, Some}
use Rattle.space_model.specs.Layout.{page_of}
use Rattle.space_pools.specs.PoolsView.{pool_at, used_at}
use Rattle.space_pools.specs.Free as pools
use Rattle.space_pools.specs.Sound.{IsSoundPools}
use Rattle.space_heap.specs.declared.heap.Heap.TheInside.{Inside}
use Rattle.space_heap.specs.HeapView.{HeapView}
use Rattle.space_heap.specs.Objects.{is_object}
use Rattle.space_heap.specs.Relocation.{IsMove}
use Rattle.space_heap.specs.words.SlotPlaces.{is_slot_of, IsSlotAt}
use Rattle.space_heap.specs.Inside.{view_from, IsHeap, rest_of}
use Rattle.space_heap.proofs.fields.Views.{pool_read}
use Rattle.space_heap.proofs.ObjectLaws.{occupied_from_object}
use Rattle.space_heap.proofs.fields.FreeReads.{least_back}
use Rattle.space_heap.proofs.fields.Here as here

module _ (h : Inside) (v : HeapView) (view_is : view_from h ≡ v) (from to : ℕ) (move : IsMove v from to) where
  pub start_moved : is_slot_of h.pools from ≡ true
  start_moved = here.start_of_object h v view_is from (occupied_from_object v from move.object)

  pub object_moved : is_object (view_from h) from ≡ true
  object_moved = ap (λ v. is_object v from) view_is ∙ move.object

  pub move_in : IsMove (view_from h) from to
  move_in = subst (λ v. IsMove v from to) (sym view_is) move

  module _ (page slot : ℕ) (inv : IsHeap h) (at : IsSlotAt h.pools from page slot) where
    pub used_moved : used_at h.pools page slot ≡ true
    used_moved = here.used_here h v view_is from page slot inv at (occupied_from_object v from move.object)

    pub pool_moved : pool_at h.pools page ≡ Some move_in.pool
    pool_moved = ap (pool_at h.pools) at.on_page ∙ sym (pool_read h.pools h.marks.items (page_of from)) ∙ move_in.its

    pub least_moved : IsSoundPools h.pools → (pool : ℕ) → pool_at h.pools page ≡ Some pool → pools.IsLeastFree h.pools pool to
    least_moved sound pool its =
        let same : move_in.pool ≡ pool = let p = pool_moved in cc in
        subst (λ q. pools.IsLeastFree h.pools q to) same
        (least_back h.pools h.marks.items (rest_of h) move_in.pool to sound ((sound.sound page).known move_in.pool pool_moved) move_in.least)
