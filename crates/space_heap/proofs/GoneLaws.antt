-- The laws of gone objects, for the callers: which objects are gone after an allocation, a write, a new page and a marking.
use Rattle.std.proofs.Common.{◌≡◌, ⊎_elim, ℕ, ◌≤◌, Bool, false, ◌&&◌, List, length, sym, ap, ◌∙◌}
use Rattle.std.proofs.lemmas.Bool.{cases_eq}
use Rattle.space_heap.specs.declared.colour.Colour.{Colour}
use Rattle.space_heap.specs.Slots.{ObjectView}
use Rattle.space_heap.specs.HeapView.{HeapView, no_page, page_at, with_page}
use Rattle.space_heap.specs.Objects.{object_of, with_object, placed}
use Rattle.space_heap.specs.FreeSlots.{IsFreeAt}
use Rattle.space_heap.specs.Marking.{recoloured, unmarked}
use Rattle.space_heap.specs.Sweeping.{is_gone}
use Rattle.space_heap.proofs.ObjectLaws.{is_occupied-with_object, stays, is_occupied-placed_same, is_occupied-placed_other, object_of-placed_same, object_of-placed_other, none_occupied_free}
use Rattle.space_heap.proofs.NewPageLaws.{is_occupied-with_page, object_of-with_page}
use Rattle.space_heap.proofs.MarkingLaws.{is_occupied-recoloured, stays-recoloured, is_occupied-unmarked, object_of-unmarked}

-- by both parts
both : (a b c d : Bool) → a ≡ b → c ≡ d → (a && c) ≡ (b && d)
both a b c d e f = ap (λ x. x && c) e ∙ ap (λ y. b && y) f

pub is_gone-with_object : (v : HeapView) (a : ℕ) (o : ObjectView) (b : ℕ) → o.gone ≡ (object_of v a).gone → is_gone (with_object v a o) b ≡ is_gone v b
is_gone-with_object v a o b same = both _ _ _ _ (is_occupied-with_object v a o b) (stays (λ (o : ObjectView). o.gone) v a o b same)

-- a new object isn't gone
pub is_gone-placed : (v : HeapView) (pool a : ℕ) (o : ObjectView) (b : ℕ) → IsFreeAt v pool a → o.gone ≡ false → is_gone (placed v a o) b ≡ is_gone v b
is_gone-placed v pool a o b free new = ⊎_elim
    (λ same.
    ap (is_gone (placed v a o)) same
    ∙ both _ _ _ _ (is_occupied-placed_same v pool a o free) (ap (λ (o : ObjectView). o.gone) (object_of-placed_same v pool a o free) ∙ new)
    ∙ sym (ap (is_gone v) same ∙ ap (λ x. x && (object_of v a).gone) (none_occupied_free v pool a free)))
    (λ other. both _ _ _ _ (is_occupied-placed_other v a o b other) (ap (λ (o : ObjectView). o.gone) (object_of-placed_other v a o b other)))
    (cases_eq b a)

pub is_gone-with_page : (v : HeapView) (page pool : ℕ) → page ≤ length v.pages → page_at v page ≡ no_page → (a : ℕ)
    → is_gone (with_page v page pool) a ≡ is_gone v a
is_gone-with_page v page pool within empty a = both _ _ _ _ (is_occupied-with_page v page pool within empty a)
    (ap (λ (o : ObjectView). o.gone) (object_of-with_page v page pool within empty a))

pub is_gone-recoloured : (v : HeapView) (a : ℕ) (c : Colour) (grey : List ℕ) (b : ℕ) → is_gone (recoloured v a c grey) b ≡ is_gone v b
is_gone-recoloured v a c grey b = both _ _ _ _ (is_occupied-recoloured v a c grey b)
    (stays-recoloured v a c grey (λ (o : ObjectView). o.gone) b (λ i. (object_of v a).gone))

pub is_gone-unmarked : (v : HeapView) (a : ℕ) → is_gone (unmarked v) a ≡ is_gone v a
is_gone-unmarked v a = both _ _ _ _ (is_occupied-unmarked v a) (ap (λ (o : ObjectView). o.gone) (object_of-unmarked v a))
