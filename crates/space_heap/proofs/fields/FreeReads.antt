-- The free addresses of the pools are those of the heap's view.
use Rattle.std.proofs.Common.{◌≡◌, ⊎_elim, ℕ, ◌*◌, ◌<◌, Bool, true, false, true≢false, not, List, [], length, refl, sym, ap, ◌∙◌, subst, arith, Option, None, Some}
use Rattle.std.specs.Prelude.{is_none, MatchOption}
use Rattle.std.proofs.lemmas.Bool.{cases_Bool, and_parts, eqb-true}
use Rattle.std.proofs.lemmas.Bool.Decides.{nat_tests}
use Rattle.std.proofs.lemmas.List.{get_or_default}
use Rattle.space_model.specs.Layout.{slot_address, slot_bytes, page_of, page_slots}
use Rattle.space_planes.specs.Planes.{bit}
use Rattle.space_pools.specs.PoolsView.{PoolsView, page_at, pool_at, unswept_at, found_at}
use Rattle.space_pools.specs.Free as pools
use Rattle.space_pools.specs.Sound.{IsSoundPools}
use Rattle.space_pools.proofs.Places.{free_within}
use Rattle.space_pools.proofs.Places as places
use Rattle.space_heap.specs.declared.marks.Marks.{Marks}
use Rattle.space_heap.specs.Slots.{Free, is_free}
use Rattle.space_heap.specs.HeapView.{HeapView, pool_with, slot_number, is_slot, is_unswept, slot_at}
use Rattle.space_heap.specs.FreeSlots.{is_pool, is_free_at, IsFreeAt, IsLeastFree, HasNoFree}
use Rattle.space_heap.specs.planes.MarkPlanes.{marks_at, slot_from, used_from, traits_from}
use Rattle.space_heap.specs.words.SlotPlaces.{is_slot_of, IsSlotAt}
use Rattle.space_heap.specs.Inside.{view_with, Rest}
use Rattle.space_heap.proofs.starts.Starts.{Start, start_parts, start_from, address_start, start_address}
use Rattle.space_heap.proofs.starts.PoolStarts.{slot_found}
use Rattle.space_heap.proofs.fields.Views.{pool_read, is_slot_read, slot_at_read}
use Rattle.space_heap.proofs.fields.Unswept.{unswept_read}

-- the slot of a free address
pub free_place : (v : PoolsView) (pool page slot a : ℕ) → IsSoundPools v → pool < 5 → pool_at v page ≡ Some pool → slot < length (page_at v page).slots
    → a ≡ slot_address page pool slot → IsSlotAt v a page slot
free_place v pool page slot a sound known its here is =
    let within : slot < page_slots pool = places.slot_within v pool page slot sound its here in
    let s = address_start pool page slot a known within is in
    slot_found v a page pool slot sound (sym s.1) its (sym s.2)
    (start_from (Some pool) (page_slots pool) a s.0 (subst (λ k. k < page_slots pool) (sym s.2) within) (ap (λ k. slot_bytes pool * k) s.2 ∙ s.3))

from_none : (found : Option (List ℕ)) (m : Marks) (slot : ℕ) → is_none found ≡ true → slot_from found m slot ≡ Free
from_none None m slot e = refl
from_none (Some words) m slot e = cc

to_none : (found : Option (List ℕ)) (m : Marks) (slot : ℕ) → is_free (slot_from found m slot) ≡ true → found ≡ None
to_none None m slot e = refl
to_none (Some words) m slot e = absurd (true≢false (sym e ∙ used words (bit m.moved slot)))
  where
    used : (words : List ℕ) (moved : Bool) → is_free (used_from words moved (traits_from m slot)) ≡ false
    used words true = refl
    used words false = refl

not_true : (b : Bool) → not b ≡ true → b ≡ false
not_true true e = sym e
not_true false e = refl

pub own_pool : (pool : ℕ) → is_pool (Some pool) pool ≡ true
own_pool pool = grind (arith, nat_tests)

its_pool : (own : Option ℕ) (pool : ℕ) → is_pool own pool ≡ true → own ≡ Some pool
its_pool None pool e = cc
its_pool (Some own) pool e = ap Some (eqb-true own pool e)

module _ (v : PoolsView) (ms : List Marks) (rest : Rest) (pool : ℕ) where
  abbrev h : HeapView
  h = view_with v ms rest

  pool_here : (a : ℕ) → pool_with h a ≡ pool_at v (page_of a)
  unfolding pool_with
  pool_here a = pool_read v ms (page_of a)

  pub free_read : (a : ℕ) → IsSoundPools v → pool < 5 → pools.IsFreeAt v pool a → IsFreeAt h pool a
  unfolding is_free_at
  free_read a sound known f =
      let here : f.slot < length (page_at v f.page).slots = free_within (page_at v f.page) f.slot f.is_free in
      let at : IsSlotAt v a f.page f.slot = free_place v pool f.page f.slot a sound known f.has_pool here f.is in
      let none : is_none (found_at v f.page f.slot) ≡ true = sym (ap is_none (get_or_default (page_at v f.page).slots f.slot (Some []) None here))
      ∙ f.is_free in
      let free : slot_at h a ≡ Free = slot_at_read v ms rest a f.page f.slot at ∙ from_none (found_at v f.page f.slot) (marks_at ms f.page) f.slot none in
      let its : pool_with h a ≡ Some pool = pool_here a ∙ ap (pool_at v) (sym at.on_page) ∙ f.has_pool in
      let some : is_slot h a ≡ true = is_slot_read v ms rest a ∙ at.is in
      let same : is_pool (pool_with h a) pool ≡ true = ap (λ o. is_pool o pool) its ∙ own_pool pool in
      let open_slot : is_free (slot_at h a) ≡ true = ap is_free free in
      let swept : is_unswept h (page_of a) ≡ false = unswept_read v (page_of a) ∙ ap (unswept_at v) (sym at.on_page) ∙ f.is_swept in
      grind (arith, some, same, open_slot, swept)

  pub free_back : (a : ℕ) → IsFreeAt h pool a → pools.IsFreeAt v pool a
  unfolding is_free_at is_slot_of
  free_back a e =
      let p = and_parts _ _ e in
      let q = and_parts _ _ p.1 in
      let r = and_parts _ _ q.1 in
      let some : is_slot_of v a ≡ true = sym (is_slot_read v ms rest a) ∙ p.0 in
      let its : pool_at v (page_of a) ≡ Some pool = sym (pool_here a) ∙ its_pool (pool_with h a) pool q.0 in
      let slot : ℕ = slot_number (pool_at v (page_of a)) a in
      let at : IsSlotAt v a (page_of a) slot = record { is = some; on_page = refl; in_slot = refl } in
      let start = start_parts (pool_at v (page_of a)) (length (page_at v (page_of a)).slots) a some in
      let none : found_at v (page_of a) slot ≡ None =
      to_none (found_at v (page_of a) slot) (marks_at ms (page_of a)) slot (sym (ap is_free (slot_at_read v ms rest a (page_of a) slot at)) ∙ r.0) in
      record {
        page = page_of a;
        slot = slot;
        has_pool = its;
        is_free = ap is_none (get_or_default (page_at v (page_of a)).slots slot (Some []) None start.within ∙ none);
        is_swept = sym (unswept_read v (page_of a)) ∙ not_true (is_unswept h (page_of a)) r.1;
        is = start_address pool (length (page_at v (page_of a)).slots) a (subst (λ o. Start o (length (page_at v (page_of a)).slots) a) its start)
            ∙ ap (λ o. slot_address (page_of a) pool (slot_number o a)) (sym its);
      }

  pub least_read : (a : ℕ) → IsSoundPools v → pool < 5 → pools.IsLeastFree v pool a → IsLeastFree h pool a
  least_read a sound known l = record { free = free_read a sound known l.free; least = λ other f. l.least other (free_back other f) }

  pub least_back : (a : ℕ) → IsSoundPools v → pool < 5 → IsLeastFree h pool a → pools.IsLeastFree v pool a
  least_back a sound known l = record { free = free_back a l.free; least = λ other f. l.least other (free_read other sound known f) }

  pub none_read : pools.HasNoFree v pool → HasNoFree h pool
  none_read none a = ⊎_elim (λ e. absurd (none a (free_back a e))) (λ e. e) (cases_Bool (is_free_at h pool a))

  pub least_or_none : (found : Option ℕ) → IsSoundPools v → pool < 5 → MatchOption found (pools.HasNoFree v pool) (pools.IsLeastFree v pool)
      → MatchOption found (HasNoFree h pool) (IsLeastFree h pool)
  least_or_none None sound known none = none_read none
  least_or_none (Some a) sound known least = least_read a sound known least
