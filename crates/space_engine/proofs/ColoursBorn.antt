-- The colours in a marking after an object was allocated: it is white, has no child and is no child, and every other one is as it was.
use Rattle.std.proofs.Common.{◌≡◌, ◌≢◌, ℕ, ◌+◌, ◌≤◌, ◌<◌, true, List, [], ◌∷◌, ◌++◌, length, nat_eq, refl, sym, ap, ◌∙◌, arith, Option, None, Some, ⊎_elim}
use Rattle.std.specs.Prelude.{is_some}
use Rattle.std.specs.Ordering.{nat_cmp}
use Rattle.std.specs.Set.{is_member}
use Rattle.std.specs.FinMap.{FinMap, get}
use Rattle.std.proofs.lemmas.Bool.{cases_eq, false≢true}
use Rattle.space_model.specs.Ages.{is_protected_guard, is_protected}
use Rattle.space_model.specs.Graph.{Item, IsChild}
use Rattle.space_model.specs.State.{History}
use Rattle.space_model.proofs.NamesKept.{children-push}
use Rattle.space_model.proofs.SlotLaws.{item_of-push}
use Rattle.space_heap.specs.declared.colour.Colour.TheVariants.{White, Black}
use Rattle.space_heap.specs.Slots.{object_in}
use Rattle.space_heap.specs.HeapView.{HeapView}
use Rattle.space_heap.specs.FreeSlots.{IsFreeAt}
use Rattle.space_heap.specs.Marking.{colour_of}
use Rattle.space_heap.specs.Objects.{object_of}
use Rattle.space_heap.proofs.ObjectLaws.{free_parts}
use Rattle.space_tracing.specs.Marking.{IsMarked}
use Rattle.space_engine.specs.Colours.{IsBlack, AreColours}
use Rattle.space_engine.proofs.ColoursKept.{SameBlack, black_count}
use Rattle.space_engine.proofs.Outcomes.{some_same}

-- nothing is at a free address, so it has no colour
pub free_white : (v : HeapView) (pool a : ℕ) → IsFreeAt v pool a → colour_of v a ≡ White
unfolding object_of
free_white v pool a e = ap (λ slot. (object_in slot).colour) (free_parts v pool a e).free

white_not_black : (v : HeapView) (a : ℕ) → colour_of v a ≡ White → IsBlack v a → ⊥
white_not_black v a white black = let same : White ≡ Black = sym white ∙ black in cc

module _ (graph : List Item) (item : Item) (place place' : FinMap nat_cmp ℕ) (history : History) (seen mixed : List ℕ) (heap heap' : HeapView)
    (c : AreColours graph place history heap) (address : ℕ)
    (allocated : (n a : ℕ) → get place n ≡ Some a → (0 < n) × (n ≤ length graph))
    (began_there : (n : ℕ) → is_member nat_eq history.began n ≡ true → is_some (get place n) ≡ true)
    (children_there : (parent n : ℕ) → is_some (get place parent) ≡ true → IsChild graph parent n → is_some (get place n) ≡ true)
    (more : (n : ℕ) → is_member nat_eq history.seen n ≡ true → is_member nat_eq seen n ≡ true)
    (new_at : get place' (length graph + 1) ≡ Some address)
    (others_at : (n : ℕ) → n ≢ length graph + 1 → get place' n ≡ get place n)
    (was_white : colour_of heap address ≡ White) (is_white : colour_of heap' address ≡ White)
    (others_are : (a : ℕ) → a ≢ address → object_of heap' a ≡ object_of heap a) where
  abbrev next : ℕ
  next = length graph + 1

  abbrev graph' : List Item
  graph' = graph ++ item ∷ []

  colour_stays : (a : ℕ) → colour_of heap' a ≡ colour_of heap a
  colour_stays a = ⊎_elim
      (λ same. ap (colour_of heap') same ∙ is_white ∙ sym was_white ∙ ap (colour_of heap) (sym same))
      (λ other. ap (λ o. o.colour) (others_are a other))
      (cases_eq a address)

  black : SameBlack heap heap'
  black = record { still = λ a e. colour_stays a ∙ e; only = λ a e. sym (colour_stays a) ∙ e }

  marked : (a : ℕ) → IsMarked heap' a → IsMarked heap a
  marked a m e = m (colour_stays a ∙ e)

  -- nothing stood for the next name
  next_absent : (o : Option ℕ) → get place next ≡ o → is_some o ≡ true → ⊥
  next_absent (Some a) at p = let b = allocated next a at in let most = b.1 in omega arith
  next_absent None at p = false≢true p

  elder : (n : ℕ) → is_some (get place n) ≡ true → n ≢ next
  elder n present same = next_absent (get place next) refl (ap (λ n. is_some (get place n)) (sym same) ∙ present)

  -- the new name's object isn't marked
  marked_elder : (n a : ℕ) → get place' n ≡ Some a → IsMarked heap' a → get place n ≡ Some a
  marked_elder n a at m = ⊎_elim
      (λ (same : n ≡ next).
      let here : a ≡ address = some_same a address (sym at ∙ ap (get place') same ∙ new_at) in
      absurd (m (ap (colour_of heap') here ∙ is_white)))
      (λ (other : n ≢ next). sym (others_at n other) ∙ at)
      (cases_eq n next)

  black_marked : (a : ℕ) → IsBlack heap' a → IsMarked heap' a
  black_marked a black white = white_not_black heap' a white black

  old_child : (parent child a : ℕ) → get place parent ≡ Some a → IsChild graph' parent child → IsChild graph parent child
  old_child parent child a at is =
      let b = allocated parent a at in
      sym (ap (λ xs. is_member nat_eq xs child) (children-push graph item parent b.0 b.1)) ∙ is

  was_protected : (n a : ℕ) → get place n ≡ Some a → is_protected graph' n ≡ true → is_protected graph n ≡ true
  was_protected n a at protected =
      let b = allocated n a at in
      sym (ap (λ (item : Item). is_protected_guard item.guard) (item_of-push graph item n b.0 b.1)) ∙ protected

  pub colours_born : AreColours graph' place' (record history { seen = seen; mixed = mixed }) heap'
  colours_born = record {
    children = λ parent child a b pat cat is protected now.
        let was : get place parent ≡ Some a = marked_elder parent a pat (black_marked a now) in
        let held : IsChild graph parent child = old_child parent child a was is in
        let present : is_some (get place child) ≡ true = children_there parent child (ap is_some was) held in
        let there : get place child ≡ Some b = sym (others_at child (elder child present)) ∙ cat in
        λ white. c.children parent child a b was there held (was_protected parent a was protected) (black.only a now) (sym (colour_stays b) ∙ white);
    seen = λ n a at m. more n (c.seen n a (marked_elder n a at m) (marked a m));
    began = λ n a at m white.
        let there : get place n ≡ Some a = sym (others_at n (elder n (began_there n m))) ∙ at in
        c.began n a there m (sym (colour_stays a) ∙ white);
    scanned = black_count heap heap' history.scanned black c.scanned;
  }
