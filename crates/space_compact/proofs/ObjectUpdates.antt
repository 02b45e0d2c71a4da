-- The laws of an object that is changed twice, and of one that is written as it was.
use Rattle.std.proofs.Common.{◌≡◌, ℕ, zero, suc, ◌<◌, true, List, [], ◌∷◌, length, get_or, set, refl, sym, ap, ◌∙◌, arith}
use Rattle.std.proofs.lemmas.Bool.{cond-true}
use Rattle.std.proofs.lemmas.List.{get_or-set_same, set-set}
use Rattle.space_model.specs.Layout.{page_of}
use Rattle.space_heap.specs.Slots.{ObjectView, SlotView, Free, Object}
use Rattle.space_heap.specs.HeapView.{PageView, HeapView, no_page, page_with, slot_number, is_slot, slot_at, with_slot_in, with_slot}
use Rattle.space_heap.specs.Objects.{is_occupied, object_of, with_object, written}
use Rattle.space_heap.proofs.Laws.{start_of, page_in_heap, is_slot-with_slot, slot_at_some}
use Rattle.space_heap.proofs.ObjectLaws.{slot_from_occupied, with_object_some, standing_slot, is_occupied-with_object}

-- the heap after a slot of a page of its own changed
abbrev changed : HeapView → ℕ → SlotView → HeapView
changed v a s = record v { pages = set v.pages (page_of a) (with_slot_in (page_with v a) (slot_number (page_with v a).pool a) s) }

with_slot_some : (v : HeapView) (a : ℕ) (s : SlotView) → is_slot v a ≡ true → with_slot v a s ≡ changed v a s
unfolding with_slot
with_slot_some v a s some = cond-true (is_slot v a) (changed v a s) v some

set_same : {X : Type 0} (xs : List X) (i : ℕ) (d : X) → i < length xs → set xs i (get_or xs i d) ≡ xs
set_same [] i d h = refl
set_same (x ∷ xs) zero d h = refl
set_same (x ∷ xs) (suc i) d h = ap (λ ys. x ∷ ys) (set_same xs i d (omega arith))

changed_twice : (v : HeapView) (a : ℕ) (s t : SlotView) → is_slot v a ≡ true → changed (changed v a s) a t ≡ changed v a t
changed_twice v a s t e =
    let n : ℕ = slot_number (page_with v a).pool a in
    let page : page_with (changed v a s) a ≡ with_slot_in (page_with v a) n s =
    get_or-set_same v.pages (page_of a) (with_slot_in (page_with v a) n s) no_page (page_in_heap v a e) in
    let own : with_slot_in (page_with (changed v a s) a) (slot_number (page_with (changed v a s) a).pool a) t ≡ with_slot_in (page_with v a) n t =
    ap (λ (p : PageView). with_slot_in p (slot_number p.pool a) t) page ∙ (λ i. record (page_with v a) { slots = set-set (page_with v a).slots n s t i }) in
    let same : set (changed v a s).pages (page_of a) (with_slot_in (page_with v a) n t) ≡ (changed v a t).pages =
    set-set v.pages (page_of a) (with_slot_in (page_with v a) n s) (with_slot_in (page_with v a) n t) in
    λ i. record v { pages = (ap (set (changed v a s).pages (page_of a)) own ∙ same) i }

changed_self : (v : HeapView) (a : ℕ) → is_slot v a ≡ true → changed v a (slot_at v a) ≡ v
changed_self v a e =
    let n : ℕ = slot_number (page_with v a).pool a in
    let within = (start_of v a e).within in
    let own : with_slot_in (page_with v a) n (slot_at v a) ≡ page_with v a =
    ap (with_slot_in (page_with v a) n) (slot_at_some v a e) ∙ (λ i. record (page_with v a) { slots = set_same (page_with v a).slots n Free within i }) in
    λ i. record v { pages = (ap (set v.pages (page_of a)) own ∙ set_same v.pages (page_of a) no_page (page_in_heap v a e)) i }

pub with_object-twice : (v : HeapView) (a : ℕ) (o p : ObjectView) → is_occupied v a ≡ true → with_object (with_object v a o) a p ≡ with_object v a p
with_object-twice v a o p e =
    let at : is_slot v a ≡ true = slot_from_occupied v a e in
    with_object_some (with_object v a o) a p (is_occupied-with_object v a o a ∙ e)
    ∙ ap (λ w. with_slot w a (Object p)) (with_object_some v a o e)
    ∙ with_slot_some (with_slot v a (Object o)) a (Object p) (is_slot-with_slot v a (Object o) a ∙ at)
    ∙ ap (λ w. changed w a (Object p)) (with_slot_some v a (Object o) at)
    ∙ changed_twice v a (Object o) (Object p) at
    ∙ sym (with_slot_some v a (Object p) at)
    ∙ sym (with_object_some v a p e)

pub with_object-self : (v : HeapView) (a : ℕ) → is_occupied v a ≡ true → with_object v a (object_of v a) ≡ v
with_object-self v a e =
    let at : is_slot v a ≡ true = slot_from_occupied v a e in
    with_object_some v a (object_of v a) e ∙ ap (with_slot v a) (sym (standing_slot v a e)) ∙ with_slot_some v a (slot_at v a) at ∙ changed_self v a at

-- a field that is written as it was
pub written_same : (v : HeapView) (a i word to : ℕ) → is_occupied v a ≡ true → i < length (object_of v a).fields → word ≡ get_or (object_of v a).fields i 0
    → to ≡ word → v ≡ written v a i to
written_same v a i word to e within is same =
    let o : ObjectView = object_of v a in
    let list : set o.fields i to ≡ o.fields = ap (set o.fields i) (same ∙ is) ∙ set_same o.fields i 0 within in
    sym (ap (with_object v a) (λ j. record o { fields = list j }) ∙ with_object-self v a e)
