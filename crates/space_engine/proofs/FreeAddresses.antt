-- Which addresses are free follows from what stands, lies or was left there.
use Rattle.std.proofs.Common.{◌≡◌, ℕ, true, false, true≢false, not, nat_eq, sym, ap, ◌∙◌, Some, ⊎_elim}
use Rattle.std.specs.Prelude.{◌↔◌}
use Rattle.std.specs.Set.{is_member}
use Rattle.std.proofs.lemmas.Bool.{cases_Bool, and_parts, and_from, not-true}
use Rattle.space_model.specs.Layout.{page_of}
use Rattle.space_model.specs.Pages.{pool_at as pool_of_page}
use Rattle.space_model.specs.Places.{IsFree}
use Rattle.space_model.specs.State.{State}
use Rattle.space_model.proofs.PageLaws.{page_of-slot_address}
use Rattle.space_heap.specs.HeapView.{HeapView, pool_at, is_unswept}
use Rattle.space_heap.specs.Objects.{is_occupied, is_object, object_of, is_moved}
use Rattle.space_heap.specs.FreeSlots.{is_slot_in, IsFreeAt}
use Rattle.space_heap.specs.SoundHeap.{IsSoundHeap}
use Rattle.space_heap.proofs.ObjectLaws.{occupied_from_object}
use Rattle.space_heap.proofs.SlotAddresses.{slot_in-address, slot_in_parts}
use Rattle.space_heap.proofs.TakenLaws.{free_by_taken}
use Rattle.space_engine.specs.Stands.{HeapRepresents}

module _ (s : State) (heap : HeapView) (h : HeapRepresents s.graph s.heap s.collector s.counters heap) (sound : IsSoundHeap heap) where
  waits : (page : ℕ) → is_member nat_eq s.heap.unswept page ≡ is_unswept heap page
  waits page = ap (λ pages. is_member nat_eq pages page) h.pages.waiting

  free_to : (pool a : ℕ) → IsFree s pool a → IsFreeAt heap pool a
  free_to pool a f =
      let on : page_of a ≡ f.at.page = ap page_of f.at.is ∙ page_of-slot_address f.at.page pool f.at.slot f.at.on_page in
      let own : pool_at heap (page_of a) ≡ Some pool = sym (h.pages.pools (page_of a)) ∙ ap (pool_of_page s.heap.pages) on ∙ f.at.has_pool in
      let slot : is_slot_in (pool_at heap (page_of a)) pool a ≡ true =
      ap (λ pool_there. is_slot_in pool_there pool a) own ∙ ap (is_slot_in (Some pool) pool) f.at.is
      ∙ slot_in-address f.at.page pool f.at.slot (sound.known (page_of a) pool own) f.at.on_page in
      let nothing : is_occupied heap a ≡ false = ⊎_elim
      (λ e. ⊎_elim
      (λ is. absurd (f.no_place (object_of heap a).name (h.objects.only a is)))
      (λ gone. absurd (f.no_corpse (object_of heap a).name (h.corpses.only a e gone)))
      (cases_Bool (is_object heap a)))
      (λ g. g)
      (cases_Bool (is_occupied heap a)) in
      let unmoved : is_moved heap a ≡ false = ⊎_elim (λ e. let l = h.left.only a e in absurd (f.not_left l.0 l.1)) (λ g. g) (cases_Bool (is_moved heap a)) in
      free_by_taken heap sound pool a
      ∙ and_from _ _ slot (and_from _ _ (and_from _ _ (ap not nothing) (ap not unmoved)) (ap not (sym (waits (page_of a)) ∙ f.swept)))

  free_from : (pool a : ℕ) → IsFreeAt heap pool a → IsFree s pool a
  free_from pool a e =
      let p = and_parts _ _ (sym (free_by_taken heap sound pool a) ∙ e) in
      let q = and_parts _ _ p.1 in
      let r = and_parts _ _ q.0 in
      let slot = slot_in_parts (pool_at heap (page_of a)) pool a p.0 in
      let nothing = not-true (is_occupied heap a) r.0 in
      record {
        at = record { page = page_of a; slot = slot.slot; has_pool = h.pages.pools (page_of a) ∙ slot.its; on_page = slot.on_page; is = slot.is };
        swept = waits (page_of a) ∙ not-true (is_unswept heap (page_of a)) q.1;
        no_place = λ n at. true≢false (sym (occupied_from_object heap a (h.objects.stands n a at)) ∙ nothing);
        no_corpse = λ n at. true≢false (sym (h.corpses.lies n a at) ∙ nothing);
        not_left = λ n at. true≢false (sym (h.left.lies n a at) ∙ not-true (is_moved heap a) r.1);
      }

  -- the same addresses are free in the state and in the heap
  pub free_agrees : (pool a : ℕ) → IsFree s pool a ↔ IsFreeAt heap pool a
  free_agrees pool a = (free_to pool a, free_from pool a)
