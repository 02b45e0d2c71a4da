-- The laws of moved objects and of free addresses, for the callers: a slot is free where no object stands and none was moved away.
use Rattle.std.proofs.Common.{◌≡◌, ⊎_elim, ℕ, ◌≤◌, Bool, true, false, not, ◌&&◌, List, length, arith, refl, sym, ap, ◌∙◌, None}
use Rattle.std.proofs.lemmas.Bool.{cases_eq}
use Rattle.space_model.specs.Layout.{page_of}
use Rattle.space_heap.specs.declared.colour.Colour.{Colour}
use Rattle.space_heap.specs.Slots.{ObjectView, has_moved}
use Rattle.space_heap.specs.HeapView.{HeapView, no_page, page_at, pool_at, is_slot, is_unswept, slot_at, empty_heap, with_page}
use Rattle.space_heap.specs.Objects.{is_occupied, is_moved, HasNoMoved, object_of, with_object, placed}
use Rattle.space_heap.specs.FreeSlots.{is_slot_in, is_free_at, IsFreeAt}
use Rattle.space_heap.specs.SoundHeap.{IsSoundHeap}
use Rattle.space_heap.specs.Marking.{with_colour, recoloured}
use Rattle.space_heap.specs.Sweeping.{swept}
use Rattle.space_heap.proofs.starts.Starts.{no_start_past}
use Rattle.space_heap.proofs.Laws.{slot_at_none}
use Rattle.space_heap.proofs.TakenLaws.{free_by_taken}
use Rattle.space_heap.proofs.ObjectLaws.{slot_stays, standing_slot, free_parts, placed_here, placed_other}
use Rattle.space_heap.proofs.NewPageLaws.{slot_at-with_page}
pub use Rattle.space_heap.proofs.MarkingLaws.{is_moved-unmarked}
pub use Rattle.space_heap.proofs.SettledLaws.{is_moved-settled}
use Rattle.space_heap.proofs.SweptLaws.{slot_at-swept_same, slot_at-swept_other, moved_away}

no_slot : (limit a : ℕ) → is_slot (empty_heap limit) a ≡ false
unfolding is_slot
no_slot limit a = no_start_past None 0 a (omega arith)

pub is_moved-empty : (limit a : ℕ) → is_moved (empty_heap limit) a ≡ false
unfolding is_moved
is_moved-empty limit a = ap has_moved (slot_at_none (empty_heap limit) a (no_slot limit a))

pub is_moved-with_object : (v : HeapView) (a : ℕ) (o : ObjectView) (b : ℕ) → is_moved (with_object v a o) b ≡ is_moved v b
unfolding is_moved
is_moved-with_object v a o b = slot_stays has_moved v a o b (λ e. sym (ap has_moved (standing_slot v a e)))

pub is_moved-placed : (v : HeapView) (pool a : ℕ) (o : ObjectView) (b : ℕ) → IsFreeAt v pool a → is_moved (placed v a o) b ≡ is_moved v b
unfolding is_moved
is_moved-placed v pool a o b e = ⊎_elim
    (λ same. ap (λ b. has_moved (slot_at (placed v a o) b)) same ∙ ap has_moved (placed_here v pool a o e) ∙ sym (ap has_moved (free_parts v pool a e).free)
    ∙ ap (λ b. has_moved (slot_at v b)) (sym same))
    (λ other. ap has_moved (placed_other v a o b other))
    (cases_eq b a)

pub is_moved-with_page : (v : HeapView) (page pool : ℕ) → page ≤ length v.pages → page_at v page ≡ no_page → (a : ℕ)
    → is_moved (with_page v page pool) a ≡ is_moved v a
unfolding is_moved
is_moved-with_page v page pool within empty a = ap has_moved (slot_at-with_page v page pool within empty a)

pub is_moved-recoloured : (v : HeapView) (a : ℕ) (c : Colour) (grey : List ℕ) (b : ℕ) → is_moved (recoloured v a c grey) b ≡ is_moved v b
unfolding recoloured is_moved slot_at is_slot
is_moved-recoloured v a c grey b = is_moved-with_object v a (with_colour (object_of v a) c) b

pub is_moved-swept : (v : HeapView) (page a : ℕ) → is_moved (swept v page) a ≡ is_moved v a
unfolding is_moved
is_moved-swept v page a = ⊎_elim
    (λ same. ap has_moved (slot_at-swept_same v page a same) ∙ moved_away (slot_at v a))
    (λ differ. ap has_moved (slot_at-swept_other v page a differ))
    (cases_eq (page_of a) page)

and_true : (b : Bool) → (b && true) ≡ b
and_true true = refl
and_true false = refl

-- where none was moved away
pub free_by_unoccupied : (v : HeapView) → IsSoundHeap v → HasNoMoved v → (pool a : ℕ)
    → is_free_at v pool a ≡ (is_slot_in (pool_at v (page_of a)) pool a && (not (is_occupied v a) && not (is_unswept v (page_of a))))
free_by_unoccupied v sound none pool a =
    free_by_taken v sound pool a
    ∙ ap (λ used. is_slot_in (pool_at v (page_of a)) pool a && (used && not (is_unswept v (page_of a))))
    (ap (λ moved. not (is_occupied v a) && not moved) (none a) ∙ and_true (not (is_occupied v a)))
