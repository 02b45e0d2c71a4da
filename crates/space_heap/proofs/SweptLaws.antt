-- The laws of the sweep of a page, for the callers: what stands where, and which pages wait and have a pool.
use Rattle.std.proofs.Common.{◌≡◌, ◌≢◌, ◌⊎◌, inl, inr, ⊎_elim, ℕ, zero, suc, ◌+◌, Bool, true, false, not, ◌&&◌, cond, List, [], ◌∷◌, length, map, set, get_or, nat_eq, refl, sym, ap, ◌∙◌, subst, arith, Option, None}
use Rattle.std.specs.Prelude.{count_by}
use Rattle.std.specs.List.{filter, list_all, IsDistinct}
use Rattle.std.specs.Set.{is_member}
use Rattle.std.proofs.Math.ListN.{get_or-map, length-map}
use Rattle.std.proofs.lemmas.Bool.{cases_Bool, cases_eq, cases_lt, cond-true, cond-false, and_parts}
use Rattle.std.proofs.lemmas.List.{get_or-set_same, get_or-set_other, get_or_past, length-set}
use Rattle.space_model.proofs.Members.{member_filter}
use Rattle.space_model.specs.Layout.{page_of}
use Rattle.space_heap.specs.declared.colour.Colour.TheVariants.{White}
use Rattle.space_heap.specs.Slots.{ObjectView, SlotView, Free, Moved, Object, no_object, has_object, has_present, has_moved, object_in, moved_in, is_free}
use Rattle.space_heap.specs.HeapView.{PageView, HeapView, no_page, page_at, pool_at, slot_number, is_start, is_unswept, slot_at}
use Rattle.space_heap.specs.Objects.{is_occupied, is_object, object_of, resolved}
use Rattle.space_heap.specs.Marking.{colour_of, IsCoherent}
use Rattle.space_heap.specs.Sweeping.{is_gone, has_gone, swept_slot, page_with_slots, swept_page, swept}
use Rattle.space_heap.proofs.NewPageLaws.{slot_on, slot_at_on, both_free}

-- where all slots of a list are free, and one that isn't among them
all_at : (xs : List SlotView) (i : ℕ) → list_all is_free xs ≡ true → get_or xs i Free ≡ Free
all_at [] i e = refl
all_at (x ∷ xs) zero e = it x (and_parts _ _ e).0
  where
    it : (x : SlotView) → is_free x ≡ true → x ≡ Free
    it Free e = refl
    it (Moved to) e = cc
    it (Object o) e = cc
all_at (x ∷ xs) (suc i) e = all_at xs i (and_parts _ _ e).1

-- the page with these slots, by its slots
pub page_empty : (pool : Option ℕ) (slots : List SlotView) → list_all is_free slots ≡ true → page_with_slots pool slots ≡ no_page
page_empty pool slots e = cond-true (list_all is_free slots) no_page (record { pool = pool; slots = slots }) e

pub page_full : (pool : Option ℕ) (slots : List SlotView) → list_all is_free slots ≡ false → page_with_slots pool slots ≡ record { pool = pool; slots = slots }
page_full pool slots e = cond-false (list_all is_free slots) no_page (record { pool = pool; slots = slots }) e

-- a slot of a page after each of its slots changed, where the page is spare if all are free then
pub spared_on : (f : SlotView → SlotView) → f Free ≡ Free → (p : PageView) (a : ℕ) → slot_on (page_with_slots p.pool (map f p.slots)) a ≡ f (slot_on p a)
spared_on f free p a =
    let n : ℕ = slot_number p.pool a in
    let at : Bool = is_start p.pool (length p.slots) a in
    let slots : List SlotView = map f p.slots in
    let read : get_or slots n Free ≡ f (get_or p.slots n Free) = ap (get_or slots n) (sym free) ∙ get_or-map f p.slots n Free in
    ⊎_elim
    (λ empty.
    ap (λ q. slot_on q a) (page_empty p.pool slots empty)
    ∙ both_free (is_start None 0 a) Free refl
    ∙ sym (free_in at (get_or p.slots n Free) (sym read ∙ all_at slots n empty)))
    (λ full.
    ap (λ q. slot_on q a) (page_full p.pool slots full)
    ∙ ap (λ k. cond (is_start p.pool k a) (get_or slots n Free) Free) (length-map p.slots f)
    ∙ ap (λ s. cond at s Free) read
    ∙ out at (get_or p.slots n Free))
    (cases_Bool (list_all is_free slots))
  where
    free_in : (at : Bool) (s : SlotView) → f s ≡ Free → f (cond at s Free) ≡ Free
    free_in true s e = e
    free_in false s e = free

    out : (at : Bool) (s : SlotView) → cond at (f s) Free ≡ f (cond at s Free)
    out true s = refl
    out false s = sym free

present_swept : (s : SlotView) → has_present (swept_slot s) ≡ has_present s
present_swept Free = refl
present_swept (Moved to) = refl
present_swept (Object o) = by_gone o o.gone refl
  where
    by_gone : (o : ObjectView) (gone : Bool) → o.gone ≡ gone → has_present (cond o.gone Free (Object o)) ≡ not o.gone
    by_gone o true e = ap has_present (cond-true o.gone Free (Object o) e) ∙ sym (ap not e)
    by_gone o false e = ap has_present (cond-false o.gone Free (Object o) e)

has_swept : (s : SlotView) → has_object (swept_slot s) ≡ has_present s
has_swept Free = refl
has_swept (Moved to) = refl
has_swept (Object o) = by_gone o o.gone refl
  where
    by_gone : (o : ObjectView) (gone : Bool) → o.gone ≡ gone → has_object (cond o.gone Free (Object o)) ≡ not o.gone
    by_gone o true e = ap has_object (cond-true o.gone Free (Object o) e) ∙ sym (ap not e)
    by_gone o false e = ap has_object (cond-false o.gone Free (Object o) e) ∙ sym (ap not e)

pub object_swept : (s : SlotView) → has_present s ≡ true → swept_slot s ≡ s
object_swept Free e = refl
object_swept (Moved to) e = refl
object_swept (Object o) e = cond-false o.gone Free (Object o) (false_of o.gone e)
  where
    false_of : (b : Bool) → not b ≡ true → b ≡ false
    false_of true e = sym e
    false_of false e = refl

none_swept : (s : SlotView) → has_present s ≡ false → object_in (swept_slot s) ≡ no_object
none_swept Free e = refl
none_swept (Moved to) e = refl
none_swept (Object o) e = ap object_in (cond-true o.gone Free (Object o) (true_of o.gone e))
  where
    true_of : (b : Bool) → not b ≡ false → b ≡ true
    true_of true e = refl
    true_of false e = sym e

moved_swept : (word : ℕ) (s : SlotView) → moved_in word (swept_slot s) ≡ moved_in word s
moved_swept word Free = refl
moved_swept word (Moved to) = refl
moved_swept word (Object o) = by_gone o o.gone refl
  where
    by_gone : (o : ObjectView) (gone : Bool) → o.gone ≡ gone → moved_in word (cond o.gone Free (Object o)) ≡ word
    by_gone o true e = ap (moved_in word) (cond-true o.gone Free (Object o) e)
    by_gone o false e = ap (moved_in word) (cond-false o.gone Free (Object o) e)

gone_swept : (s : SlotView) → has_gone (swept_slot s) ≡ false
gone_swept Free = refl
gone_swept (Moved to) = refl
gone_swept (Object o) = by_gone o o.gone refl
  where
    by_gone : (o : ObjectView) (gone : Bool) → o.gone ≡ gone → has_gone (cond o.gone Free (Object o)) ≡ false
    by_gone o true e = ap has_gone (cond-true o.gone Free (Object o) e)
    by_gone o false e = ap has_gone (cond-false o.gone Free (Object o) e) ∙ e

pub moved_away : (s : SlotView) → has_moved (swept_slot s) ≡ has_moved s
moved_away Free = refl
moved_away (Moved to) = refl
moved_away (Object o) = by_gone o o.gone refl
  where
    by_gone : (o : ObjectView) (gone : Bool) → o.gone ≡ gone → has_moved (cond o.gone Free (Object o)) ≡ false
    by_gone o true e = ap has_moved (cond-true o.gone Free (Object o) e)
    by_gone o false e = ap has_moved (cond-false o.gone Free (Object o) e)

module _ (v : HeapView) (page : ℕ) where
  abbrev w : HeapView
  w = swept v page

  pub page_at-swept_other : (k : ℕ) → k ≢ page → page_at w k ≡ page_at v k
  unfolding swept
  page_at-swept_other k differ = get_or-set_other v.pages page k (swept_page (page_at v page)) no_page differ

  pub page_at-swept_same : page_at w page ≡ swept_page (page_at v page)
  unfolding swept
  page_at-swept_same = ⊎_elim
      (λ within. get_or-set_same v.pages page (swept_page (page_at v page)) no_page within)
      (λ past.
      get_or_past (set v.pages page (swept_page (page_at v page))) page no_page (let l = length-set v.pages page (swept_page (page_at v page)) in omega arith)
      ∙ sym (ap swept_page (get_or_past v.pages page no_page past)))
      (cases_lt page (length v.pages))

  -- each slot as it is then
  pub slot_at-swept_other : (a : ℕ) → page_of a ≢ page → slot_at w a ≡ slot_at v a
  slot_at-swept_other a differ = slot_at_on w a ∙ ap (λ p. slot_on p a) (page_at-swept_other (page_of a) differ) ∙ sym (slot_at_on v a)

  pub slot_at-swept_same : (a : ℕ) → page_of a ≡ page → slot_at w a ≡ swept_slot (slot_at v a)
  slot_at-swept_same a same =
      slot_at_on w a
      ∙ ap (λ k. slot_on (page_at w k) a) same
      ∙ ap (λ p. slot_on p a) page_at-swept_same
      ∙ spared_on swept_slot refl (page_at v page) a
      ∙ ap (λ k. swept_slot (slot_on (page_at v k) a)) (sym same)
      ∙ ap swept_slot (sym (slot_at_on v a))

  -- on the page stands what can be named
  pub is_occupied-swept_same : (a : ℕ) → page_of a ≡ page → is_occupied w a ≡ is_object v a
  unfolding is_occupied is_object
  is_occupied-swept_same a same = ap has_object (slot_at-swept_same a same) ∙ has_swept (slot_at v a)

  -- and on the others what stood
  pub is_occupied-swept_other : (a : ℕ) → page_of a ≢ page → is_occupied w a ≡ is_occupied v a
  unfolding is_occupied
  is_occupied-swept_other a differ = ap has_object (slot_at-swept_other a differ)

  -- the same objects can be named
  pub is_object-swept : (a : ℕ) → is_object w a ≡ is_object v a
  unfolding is_object
  is_object-swept a = ⊎_elim
      (λ same. ap has_present (slot_at-swept_same a same) ∙ present_swept (slot_at v a))
      (λ differ. ap has_present (slot_at-swept_other a differ))
      (cases_eq (page_of a) page)

  -- and they are as before
  pub object_of-swept : (a : ℕ) → is_object v a ≡ true → object_of w a ≡ object_of v a
  unfolding is_object object_of
  object_of-swept a e = ⊎_elim
      (λ same. ap object_in (slot_at-swept_same a same ∙ object_swept (slot_at v a) e))
      (λ differ. ap object_in (slot_at-swept_other a differ))
      (cases_eq (page_of a) page)

  pub object_of-swept_other : (a : ℕ) → page_of a ≢ page → object_of w a ≡ object_of v a
  unfolding object_of
  object_of-swept_other a differ = ap object_in (slot_at-swept_other a differ)

  -- a gone object of the page is no more
  pub object_of-swept_none : (a : ℕ) → page_of a ≡ page → is_object v a ≡ false → object_of w a ≡ no_object
  unfolding is_object object_of
  object_of-swept_none a same e = ap object_in (slot_at-swept_same a same) ∙ none_swept (slot_at v a) e

  -- no gone object is left on the page, and those of the others stay
  pub is_gone-swept_same : (a : ℕ) → page_of a ≡ page → is_gone w a ≡ false
  unfolding is_occupied object_of
  is_gone-swept_same a same = ap has_gone (slot_at-swept_same a same) ∙ gone_swept (slot_at v a)

  pub is_gone-swept_other : (a : ℕ) → page_of a ≢ page → is_gone w a ≡ is_gone v a
  unfolding is_occupied object_of
  is_gone-swept_other a differ = ap has_gone (slot_at-swept_other a differ)

  pub resolved-swept : (word : ℕ) → resolved w word ≡ resolved v word
  unfolding resolved
  resolved-swept word = ⊎_elim
      (λ same. ap (moved_in word) (slot_at-swept_same word same) ∙ moved_swept word (slot_at v word))
      (λ differ. ap (moved_in word) (slot_at-swept_other word differ))
      (cases_eq (page_of word) page)

  pub pool_at-swept_other : (k : ℕ) → k ≢ page → pool_at w k ≡ pool_at v k
  pool_at-swept_other k differ = ap (λ (p : PageView). p.pool) (page_at-swept_other k differ)

  -- the page keeps its pool or is spare
  pub pool_at-swept_same : pool_at w page ≡ cond (list_all is_free (map swept_slot (page_at v page).slots)) None (pool_at v page)
  pool_at-swept_same = ap (λ (p : PageView). p.pool) page_at-swept_same
      ∙ pool_of (list_all is_free (map swept_slot (page_at v page).slots)) (map swept_slot (page_at v page).slots)
    where
      pool_of : (b : Bool) (slots : List SlotView) → (cond b no_page (record { pool = pool_at v page; slots = slots })).pool ≡ cond b None (pool_at v page)
      pool_of true slots = refl
      pool_of false slots = refl

  pub count-swept : length w.pages ≡ length v.pages
  unfolding swept
  count-swept = length-set v.pages page (swept_page (page_at v page))

  pub is_unswept-swept : (k : ℕ) → is_unswept w k ≡ (is_unswept v k && not (nat_eq k page))
  unfolding swept
  is_unswept-swept k = member_filter (λ other. not (nat_eq other page)) v.unswept k

  pub unswept-swept : w.unswept ≡ filter (λ other. not (nat_eq other page)) v.unswept
  unfolding swept
  unswept-swept = refl

  pub limit-swept : w.limit ≡ v.limit
  unfolding swept
  limit-swept = refl

  pub grey-swept : w.grey ≡ v.grey
  unfolding swept
  grey-swept = refl

  pub phase-swept : w.phase ≡ v.phase
  unfolding swept
  phase-swept = refl

  pub cursor-swept : w.cursor ≡ v.cursor
  unfolding swept
  cursor-swept = refl

  pub counters-swept : w.counters ≡ record v.counters { freed = v.counters.freed + count_by has_gone (page_at v page).slots }
  unfolding swept
  counters-swept = refl

  -- an object that could be named keeps its colour, and what could not be named is white or as before
  colours : (a : ℕ) → (colour_of w a ≡ colour_of v a) ⊎ (colour_of w a ≡ White)
  colours a = ⊎_elim
      (λ same. ⊎_elim
      (λ e. inl (ap (λ (o : ObjectView). o.colour) (object_of-swept a e)))
      (λ e. inr (ap (λ (o : ObjectView). o.colour) (object_of-swept_none a same e)))
      (cases_Bool (is_object v a)))
      (λ differ. inl (ap (λ (o : ObjectView). o.colour) (object_of-swept_other a differ)))
      (cases_eq (page_of a) page)

  pub coherent_swept : IsCoherent v → IsCoherent w
  coherent_swept c =
      let grey : w.grey ≡ v.grey = grey-swept in
      let old : (a : ℕ) → is_member nat_eq w.grey a ≡ true → is_member nat_eq v.grey a ≡ true = λ a m. ap (λ xs. is_member nat_eq xs a) (sym grey) ∙ m in
      record {
        once = subst (IsDistinct nat_eq) (sym grey) c.once;
        grey_listed = λ a g. ap (λ xs. is_member nat_eq xs a) grey ∙ c.grey_listed a (⊎_elim (λ e. sym e ∙ g) (λ e. cc) (colours a));
        listed_grey = λ a m. ap (λ (o : ObjectView). o.colour) (object_of-swept a (c.present a (old a m))) ∙ c.listed_grey a (old a m);
        present = λ a m. is_object-swept a ∙ c.present a (old a m);
      }
