-- The laws of free slots, for the callers, by whether a slot starts at an address, an object stands there, and one was moved away.
use Rattle.std.proofs.Common.{◌≡◌, ℕ, Bool, true, false, not, ◌&&◌, nat_eq, arith, refl, sym, ap, ◌∙◌, None, Some}
use Rattle.std.proofs.lemmas.Bool.{and_parts, and_from, eq-eqb}
use Rattle.space_model.specs.Layout.{page_of, page_slots}
use Rattle.space_heap.specs.HeapView.{HeapView, pool_at, is_start, is_slot, slot_at}
use Rattle.space_heap.specs.Objects.{is_occupied, is_moved}
use Rattle.space_heap.specs.FreeSlots.{is_slot_in}
use Rattle.space_heap.specs.SoundHeap.{IsSoundHeap}
use Rattle.space_heap.specs.SlotCounts.{is_vacant, IsVacant}
use Rattle.space_heap.proofs.starts.Starts.{no_start_past}
use Rattle.space_heap.proofs.TakenLaws.{free_split}

-- a free slot starts where a slot starts, no object stands, gone or not, and none was moved away
pub is_vacant_is : (v : HeapView) (a : ℕ) → is_vacant v a ≡ (is_slot v a && (not (is_occupied v a) && not (is_moved v a)))
unfolding is_vacant is_occupied is_moved
is_vacant_is v a = ap (λ free. is_slot v a && free) (free_split (slot_at v a))

not_true : (b : Bool) → not b ≡ true → b ≡ false
not_true true e = sym e
not_true false e = refl

-- what that tells
pub record VacantParts (v : HeapView) (a : ℕ) : Type 0 where
  pub slot : is_slot v a ≡ true
  pub unoccupied : is_occupied v a ≡ false
  pub unmoved : is_moved v a ≡ false

pub vacant_parts : (v : HeapView) (a : ℕ) → IsVacant v a → VacantParts v a
vacant_parts v a e =
    let p = and_parts _ _ (sym (is_vacant_is v a) ∙ e) in
    let q = and_parts _ _ p.1 in
    record { slot = p.0; unoccupied = not_true (is_occupied v a) q.0; unmoved = not_true (is_moved v a) q.1 }

pub vacant_from : (v : HeapView) (a : ℕ) → is_slot v a ≡ true → is_occupied v a ≡ false → is_moved v a ≡ false → IsVacant v a
vacant_from v a slot unoccupied unmoved = is_vacant_is v a ∙ and_from _ _ slot (and_from _ _ (ap not unoccupied) (ap not unmoved))

-- a slot starts at an address of a page of a pool where the pool's slots start
pub slot_of_pool : (v : HeapView) (pool a : ℕ) → IsSoundHeap v → pool_at v (page_of a) ≡ Some pool → is_slot v a ≡ is_slot_in (pool_at v (page_of a)) pool a
unfolding is_slot
slot_of_pool v pool a sound its =
    ap (λ n. is_start (pool_at v (page_of a)) n a) (sound.long (page_of a) pool its)
    ∙ ap (λ own. is_start own (page_slots pool) a) its
    ∙ own_start (is_start (Some pool) (page_slots pool) a)
    ∙ sym (ap (λ own. is_slot_in own pool a) its)
  where
    own_start : (b : Bool) → b ≡ (nat_eq pool pool && b)
    own_start b = sym (ap (λ same. same && b) (eq-eqb pool pool refl))

-- and at none of a page without a pool
pub no_slot_of_spare : (v : HeapView) (a : ℕ) → IsSoundHeap v → pool_at v (page_of a) ≡ None → is_slot v a ≡ false
unfolding is_slot
no_slot_of_spare v a sound its =
    ap (λ n. is_start (pool_at v (page_of a)) n a) (sound.spare (page_of a) its)
    ∙ no_start_past (pool_at v (page_of a)) 0 a (omega arith)
