-- The list of grey addresses, for the callers: what it tells of the objects, and how each call keeps it right.
use Rattle.std.proofs.Common.{◌≡◌, ◌≢◌, ⊎_elim, ℕ, ◌-◌, ◌<◌, ◌≤◌, true, false, true≢false, List, [], ◌∷◌, ◌++◌, length, nat_eq, get_or, take, refl, sym, ap, ◌∙◌, subst, arith}
use Rattle.std.specs.Cmp.{nat_eq_equiv}
use Rattle.std.specs.List.{IsDistinct}
use Rattle.std.specs.Set.{is_member}
use Rattle.std.proofs.lemmas.Bool.{cases_eq, false_from_ne_true, true_from_ne_false}
use Rattle.std.proofs.lemmas.Bool.Decides.{nat_tests}
use Rattle.std.proofs.lemmas.List.{length-append}
use Rattle.std.proofs.lemmas.Map.Keys.{IsDistinct-push}
use Rattle.space_heap.specs.declared.colour.Colour.TheVariants.{White, Grey, Black}
use Rattle.space_heap.specs.Slots.{ObjectView, SlotView, Free, Moved, Object, has_object, object_in, no_object}
use Rattle.space_heap.specs.HeapView.{HeapView, no_page, page_at, slot_at, with_page}
use Rattle.space_heap.specs.Objects.{is_occupied, is_object, object_of, with_object, placed}
use Rattle.space_heap.specs.FreeSlots.{IsFreeAt}
use Rattle.space_heap.specs.Marking.{colour_of, greyed, blackened, unmarked, IsCoherent, HasAtMost}
use Rattle.space_heap.proofs.ObjectLaws.{occupied_from_object, stays, is_object-with_object, rest-with_object, none_occupied_free, object_of-placed_same, object_of-placed_other, is_object-placed_other, grey-placed}
use Rattle.space_heap.proofs.NewPageLaws.{object_of-with_page, is_object-with_page}
use Rattle.space_heap.proofs.NumberLists.{is_member-push, IsDistinct-pop, IsDistinct-none, take_last}
use Rattle.space_heap.proofs.MarkingLaws.{is_object-recoloured, colour_of-recoloured_same, colour_of-recoloured_other, grey-recoloured, colour_of-unmarked, grey-unmarked}

none_in : (s : SlotView) → has_object s ≡ false → object_in s ≡ no_object
none_in Free e = refl
none_in (Moved to) e = refl
none_in (Object o) e = cc

-- where no object stands there is none to read
pub object_of_none : (v : HeapView) (a : ℕ) → is_occupied v a ≡ false → object_of v a ≡ no_object
unfolding is_occupied object_of
object_of_none v a e = none_in (slot_at v a) e

-- only an object has another colour than white
pub occupied_from_colour : (v : HeapView) (a : ℕ) → colour_of v a ≢ White → is_occupied v a ≡ true
occupied_from_colour v a marked = true_from_ne_false _ (λ e. marked (ap (λ (o : ObjectView). o.colour) (object_of_none v a e)))

-- where the list of grey addresses and all colours stay, and no object is gone that wasn't
pub coherent_same : (v w : HeapView) → w.grey ≡ v.grey → ((a : ℕ) → colour_of w a ≡ colour_of v a) → ((a : ℕ) → is_object v a ≡ true → is_object w a ≡ true)
    → IsCoherent v → IsCoherent w
coherent_same v w grey colours present c = record {
  once = subst (IsDistinct nat_eq) (sym grey) c.once;
  grey_listed = λ a g. ap (λ xs. is_member nat_eq xs a) grey ∙ c.grey_listed a (sym (colours a) ∙ g);
  listed_grey = λ a m. colours a ∙ c.listed_grey a (ap (λ xs. is_member nat_eq xs a) (sym grey) ∙ m);
  present = λ a m. present a (c.present a (ap (λ xs. is_member nat_eq xs a) (sym grey) ∙ m));
}

pub coherent_greyed : (v : HeapView) (a : ℕ) → is_object v a ≡ true → colour_of v a ≡ White → IsCoherent v → IsCoherent (greyed v a)
coherent_greyed v a o w c =
    let list : List ℕ = v.grey ++ a ∷ [] in
    let grey : (greyed v a).grey ≡ list = grey-recoloured v a Grey list in
    let fresh : is_member nat_eq v.grey a ≡ false = false_from_ne_true _ (λ m. let g = c.listed_grey a m in cc) in
    let here = colour_of-recoloured_same v a Grey list (occupied_from_object v a o) in
    let more = λ (b : ℕ). ap (λ xs. is_member nat_eq xs b) grey ∙ is_member-push v.grey a b in
    record {
      once = subst (IsDistinct nat_eq) (sym grey) (IsDistinct-push nat_eq_equiv v.grey a c.once fresh);
      grey_listed = λ b g. grind (arith, nat_tests, cases_eq b a, colour_of-recoloured_other v a Grey list b, c.grey_listed b, more b);
      listed_grey = λ b m. grind (arith, nat_tests, cases_eq b a, here, colour_of-recoloured_other v a Grey list b, c.listed_grey b, more b);
      present = λ b m. grind (arith, nat_tests, cases_eq b a, is_object-recoloured v a Grey list b, c.present b, more b, o);
    }

-- the list cut before its last
cut : (v : HeapView) (a : ℕ) → 0 < length v.grey → a ≡ get_or v.grey (length v.grey - 1) 0 → take (length v.grey - 1) v.grey ++ a ∷ [] ≡ v.grey
cut v a some last = subst (λ x. take (length v.grey - 1) v.grey ++ x ∷ [] ≡ v.grey) (sym last) (take_last v.grey 0 some)

-- the last address of the list is in it
pub last_listed : (v : HeapView) (a : ℕ) → 0 < length v.grey → a ≡ get_or v.grey (length v.grey - 1) 0 → is_member nat_eq v.grey a ≡ true
last_listed v a some last =
    let rest : List ℕ = take (length v.grey - 1) v.grey in
    sym (ap (λ xs. is_member nat_eq xs a) (cut v a some last)) ∙ grind (arith, nat_tests, is_member-push rest a a)

pub last_is_grey : (v : HeapView) (a : ℕ) → IsCoherent v → 0 < length v.grey → a ≡ get_or v.grey (length v.grey - 1) 0 → colour_of v a ≡ Grey
last_is_grey v a c some last = c.listed_grey a (last_listed v a some last)

pub last_is_object : (v : HeapView) (a : ℕ) → IsCoherent v → 0 < length v.grey → a ≡ get_or v.grey (length v.grey - 1) 0 → is_object v a ≡ true
last_is_object v a c some last = c.present a (last_listed v a some last)

-- with an empty list no object is grey
pub none_grey : (v : HeapView) (a : ℕ) → IsCoherent v → v.grey ≡ [] → colour_of v a ≢ Grey
none_grey v a c e g = true≢false (sym (c.grey_listed a g) ∙ ap (λ xs. is_member nat_eq xs a) e)

pub coherent_blackened : (v : HeapView) (a : ℕ) → 0 < length v.grey → a ≡ get_or v.grey (length v.grey - 1) 0 → IsCoherent v → IsCoherent (blackened v a)
coherent_blackened v a some last c =
    let rest : List ℕ = take (length v.grey - 1) v.grey in
    let grey : (blackened v a).grey ≡ rest = grey-recoloured v a Black rest in
    let t = IsDistinct-pop rest a (subst (IsDistinct nat_eq) (sym (cut v a some last)) c.once) in
    let here = colour_of-recoloured_same v a Black rest (occupied_from_object v a (last_is_object v a c some last)) in
    let less = λ (b : ℕ). ap (λ xs. is_member nat_eq xs b) grey in
    let split = λ (b : ℕ). sym (ap (λ xs. is_member nat_eq xs b) (cut v a some last)) ∙ is_member-push rest a b in
    record {
      once = subst (IsDistinct nat_eq) (sym grey) t.0;
      grey_listed = λ b g. grind (arith, nat_tests, cases_eq b a, here, colour_of-recoloured_other v a Black rest b, c.grey_listed b, split b, less b);
      listed_grey = λ b m. grind (arith, nat_tests, cases_eq b a, colour_of-recoloured_other v a Black rest b, c.listed_grey b, split b, less b, t.1);
      present = λ b m. grind (arith, nat_tests, is_object-recoloured v a Black rest b, c.present b, split b, less b);
    }

pub coherent_unmarked : (v : HeapView) → IsCoherent (unmarked v)
coherent_unmarked v =
    let grey = grey-unmarked v in
    record {
      once = subst (IsDistinct nat_eq) (sym grey) IsDistinct-none;
      grey_listed = λ a g. let w = colour_of-unmarked v a in cc;
      listed_grey = λ a m. absurd (true≢false (sym m ∙ ap (λ xs. is_member nat_eq xs a) grey));
      present = λ a m. absurd (true≢false (sym m ∙ ap (λ xs. is_member nat_eq xs a) grey));
    }

-- an object whose colour stays, and that is gone as before
pub coherent_with_object : (v : HeapView) (a : ℕ) (o : ObjectView) → o.colour ≡ colour_of v a → o.gone ≡ (object_of v a).gone → IsCoherent v
    → IsCoherent (with_object v a o)
coherent_with_object v a o colour gone = coherent_same v (with_object v a o) (rest-with_object v a o).grey
    (λ b. stays (λ (o : ObjectView). o.colour) v a o b colour) (λ b is. is_object-with_object v a o b gone ∙ is)

-- a new object is white
pub coherent_placed : (v : HeapView) (pool a : ℕ) (o : ObjectView) → IsFreeAt v pool a → o.colour ≡ White → IsCoherent v → IsCoherent (placed v a o)
coherent_placed v pool a o free white = coherent_same v (placed v a o) (grey-placed v a o)
    (λ b. ⊎_elim
    (λ same.
    ap (colour_of (placed v a o)) same
    ∙ ap (λ (o : ObjectView). o.colour) (object_of-placed_same v pool a o free) ∙ white
    ∙ sym (ap (λ (o : ObjectView). o.colour) (object_of_none v a (none_occupied_free v pool a free)))
    ∙ ap (colour_of v) (sym same))
    (λ differ. ap (λ (o : ObjectView). o.colour) (object_of-placed_other v a o b differ))
    (cases_eq b a))
    (λ b is. ⊎_elim
    (λ same. absurd (true≢false (sym (occupied_from_object v b is) ∙ ap (is_occupied v) same ∙ none_occupied_free v pool a free)))
    (λ differ. is_object-placed_other v a o b differ ∙ is)
    (cases_eq b a))

grey-with_page : (v : HeapView) (page pool : ℕ) → (with_page v page pool).grey ≡ v.grey
unfolding with_page
grey-with_page v page pool = refl

pub coherent_with_page : (v : HeapView) (page pool : ℕ) → page ≤ length v.pages → page_at v page ≡ no_page → IsCoherent v → IsCoherent (with_page v page pool)
coherent_with_page v page pool within empty = coherent_same v (with_page v page pool) (grey-with_page v page pool)
    (λ a. ap (λ (o : ObjectView). o.colour) (object_of-with_page v page pool within empty a)) (λ a is. is_object-with_page v page pool within empty a ∙ is)

-- a heap without an object
pub coherent_empty : (v : HeapView) → ((a : ℕ) → is_occupied v a ≡ false) → v.grey ≡ [] → IsCoherent v
coherent_empty v none grey = record {
  once = subst (IsDistinct nat_eq) (sym grey) IsDistinct-none;
  grey_listed = λ a g. let w = ap (λ (o : ObjectView). o.colour) (object_of_none v a (none a)) in cc;
  listed_grey = λ a m. absurd (true≢false (sym m ∙ ap (λ xs. is_member nat_eq xs a) grey));
  present = λ a m. absurd (true≢false (sym m ∙ ap (λ xs. is_member nat_eq xs a) grey));
}

-- the grey objects are no more than all
pub few_grey : (v : HeapView) (most : ℕ) → IsCoherent v → HasAtMost v most → length v.grey ≤ most
few_grey v most c few = few v.grey c.once (λ a m. occupied_from_object v a (c.present a m))

-- while one is white they are fewer
pub fewer_grey : (v : HeapView) (most a : ℕ) → is_object v a ≡ true → colour_of v a ≡ White → IsCoherent v → HasAtMost v most → length v.grey < most
fewer_grey v most a o w c few =
    let fresh : is_member nat_eq v.grey a ≡ false = false_from_ne_true _ (λ m. let g = c.listed_grey a m in cc) in
    let more : length (v.grey ++ a ∷ []) ≤ most = few (v.grey ++ a ∷ []) (IsDistinct-push nat_eq_equiv v.grey a c.once fresh)
    (λ b m. occupied_from_object v b (grind (arith, nat_tests, cases_eq b a, c.present b, is_member-push v.grey a b, o))) in
    omega (arith, length-append v.grey (a ∷ []))
