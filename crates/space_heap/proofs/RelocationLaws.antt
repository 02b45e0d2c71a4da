-- The laws of a move, for the callers: what stands where, what is free and what is resolved after it.
use Rattle.std.proofs.Common.{◌≡◌, ◌≢◌, ⊎_elim, ℕ, ◌+◌, ◌≤◌, Bool, true, false, true≢false, not, ◌&&◌, cond, [], length, nat_eq, refl, sym, ap, ◌∙◌, subst, arith}
use Rattle.std.specs.Prelude.{is_some}
use Rattle.std.specs.List.{IsDistinct, range_with_len, filter}
use Rattle.std.specs.Set.{is_member}
use Rattle.std.proofs.lemmas.Bool.{cases_eq, cond-true, cond-false}
use Rattle.std.proofs.lemmas.Bool.Decides.{nat_tests}
use Rattle.space_model.specs.Layout.{page_of}
use Rattle.space_heap.specs.declared.colour.Colour.TheVariants.{White}
use Rattle.space_heap.specs.Slots.{ObjectView, SlotView, Free, Moved, Object, no_object, has_object, has_present, has_moved, object_in, moved_in, is_free}
use Rattle.space_heap.specs.HeapView.{Counters, HeapView, page_at, pool_at, pool_with, is_slot, is_unswept, slot_at, with_slot}
use Rattle.space_heap.specs.Objects.{is_occupied, is_object, object_of, resolved, is_moved}
use Rattle.space_heap.specs.FreeSlots.{is_pool, is_free_at, IsFreeAt}
use Rattle.space_heap.specs.Marking.{colour_of, IsCoherent}
use Rattle.space_heap.specs.Sweeping.{is_gone, has_gone}
use Rattle.space_heap.specs.SoundHeap.{IsSoundHeap}
use Rattle.space_heap.specs.Relocation.{relocated}
use Rattle.space_heap.proofs.Laws.{rest-with_slot, slots-with_slot, slot_at-with_slot_same, slot_at-with_slot_other, is_slot-with_slot, pool_at-with_slot, count-with_slot}
use Rattle.space_heap.proofs.ObjectLaws.{occupied_from_object, slot_from_occupied, FreeParts, free_parts, none_occupied_free}
use Rattle.space_heap.proofs.Coherence.{none_grey}

cond_ap : {A B : Type 0} (f : A → B) (c : Bool) (x y : A) → f (cond c x y) ≡ cond c (f x) (f y)
cond_ap f true x y = refl
cond_ap f false x y = refl

module _ (v : HeapView) (pool from to : ℕ) (e : is_object v from ≡ true) (free : IsFreeAt v pool to) where
  abbrev w : HeapView
  w = relocated v from to

  abbrev u : HeapView
  u = with_slot v to (Object (object_of v from))

  parts : FreeParts v pool to
  parts = free_parts v pool to free

  -- an object doesn't stand where a slot is free
  pub move_apart : from ≢ to
  move_apart same = true≢false (sym (occupied_from_object v from e) ∙ ap (is_occupied v) same ∙ none_occupied_free v pool to free)

  from_slot : is_slot u from ≡ true
  from_slot = is_slot-with_slot v to (Object (object_of v from)) from ∙ slot_from_occupied v from (occupied_from_object v from e)

  slot_left : slot_at w from ≡ Moved to
  unfolding relocated slot_at is_slot
  slot_left = slot_at-with_slot_same u from (Moved to) from_slot

  slot_used : slot_at w to ≡ Object (object_of v from)
  unfolding relocated slot_at is_slot
  slot_used = slot_at-with_slot_other u from (Moved to) to (λ same. move_apart (sym same)) ∙ slot_at-with_slot_same v to (Object (object_of v from)) parts.slot

  slot_elsewhere : (b : ℕ) → b ≢ from → b ≢ to → slot_at w b ≡ slot_at v b
  unfolding relocated slot_at is_slot
  slot_elsewhere b f t = slot_at-with_slot_other u from (Moved to) b f ∙ slot_at-with_slot_other v to (Object (object_of v from)) b t

  -- each slot as it is then
  pub slot_at-relocated : (b : ℕ) → slot_at w b ≡ cond (nat_eq b from) (Moved to) (cond (nat_eq b to) (Object (object_of v from)) (slot_at v b))
  slot_at-relocated b = ⊎_elim
      (λ f. ap (slot_at w) f ∙ slot_left ∙ sym (cond-true (nat_eq b from) (Moved to) _ (grind (arith, nat_tests))))
      (λ f. sym (cond-false (nat_eq b from) (Moved to) (cond (nat_eq b to) (Object (object_of v from)) (slot_at v b)) (grind (arith, nat_tests)) ∙ ⊎_elim
      (λ t. cond-true (nat_eq b to) (Object (object_of v from)) (slot_at v b) (grind (arith, nat_tests)) ∙ sym (ap (slot_at w) t ∙ slot_used))
      (λ t. cond-false (nat_eq b to) (Object (object_of v from)) (slot_at v b) (grind (arith, nat_tests)) ∙ sym (slot_elsewhere b f t))
      (cases_eq b to)))
      (cases_eq b from)

  -- what a part of a slot is then
  part : {X : Type 0} (f : SlotView → X) (b : ℕ)
      → f (slot_at w b) ≡ cond (nat_eq b from) (f (Moved to)) (cond (nat_eq b to) (f (Object (object_of v from))) (f (slot_at v b)))
  part f b = ap f (slot_at-relocated b) ∙ cond_ap f (nat_eq b from) _ _ ∙ ap (cond (nat_eq b from) (f (Moved to))) (cond_ap f (nat_eq b to) _ _)

  pub is_occupied-relocated : (b : ℕ) → is_occupied w b ≡ cond (nat_eq b from) false (cond (nat_eq b to) true (is_occupied v b))
  unfolding is_occupied
  is_occupied-relocated b = part has_object b

  present : has_present (Object (object_of v from)) ≡ true
  unfolding is_object object_of
  present = it (slot_at v from) e
    where
      it : (s : SlotView) → has_present s ≡ true → has_present (Object (object_in s)) ≡ true
      it Free e = cc
      it (Moved to) e = cc
      it (Object o) e = e

  -- the address that the object left names none, and the one that it was moved to names it
  pub is_object-relocated : (b : ℕ) → is_object w b ≡ cond (nat_eq b from) false (cond (nat_eq b to) true (is_object v b))
  unfolding is_object
  is_object-relocated b = part has_present b ∙ ap (λ c. cond (nat_eq b from) false (cond (nat_eq b to) c (has_present (slot_at v b)))) present

  pub object_of-relocated : (b : ℕ) → object_of w b ≡ cond (nat_eq b from) no_object (cond (nat_eq b to) (object_of v from) (object_of v b))
  unfolding object_of
  object_of-relocated b = part object_in b

  pub is_moved-relocated : (b : ℕ) → is_moved w b ≡ cond (nat_eq b from) true (cond (nat_eq b to) false (is_moved v b))
  unfolding is_moved
  is_moved-relocated b = part has_moved b

  -- the address that the object left is resolved to the new one; any other word is as before
  pub resolved-relocated : (word : ℕ) → resolved w word ≡ cond (nat_eq word from) to (resolved v word)
  unfolding resolved
  resolved-relocated word = part (moved_in word) word ∙ ap (cond (nat_eq word from) to) (⊎_elim
      (λ t. cond-true (nat_eq word to) word (moved_in word (slot_at v word)) (grind (arith, nat_tests))
      ∙ sym (ap (λ b. moved_in word (slot_at v b)) t ∙ ap (moved_in word) parts.free))
      (λ t. cond-false (nat_eq word to) word (moved_in word (slot_at v word)) (grind (arith, nat_tests)))
      (cases_eq word to))

  pub pool_at-relocated : (page : ℕ) → pool_at w page ≡ pool_at v page
  unfolding relocated
  pool_at-relocated page = pool_at-with_slot u from (Moved to) page ∙ pool_at-with_slot v to (Object (object_of v from)) page

  pub count-relocated : length w.pages ≡ length v.pages
  unfolding relocated
  count-relocated = count-with_slot u from (Moved to) ∙ count-with_slot v to (Object (object_of v from))

  pub unswept-relocated : w.unswept ≡ v.unswept
  unfolding relocated
  unswept-relocated = (rest-with_slot u from (Moved to)).unswept ∙ (rest-with_slot v to (Object (object_of v from))).unswept

  pub grey-relocated : w.grey ≡ v.grey
  unfolding relocated
  grey-relocated = (rest-with_slot u from (Moved to)).grey ∙ (rest-with_slot v to (Object (object_of v from))).grey

  pub limit-relocated : w.limit ≡ v.limit
  unfolding relocated
  limit-relocated = (rest-with_slot u from (Moved to)).limit ∙ (rest-with_slot v to (Object (object_of v from))).limit

  pub phase-relocated : w.phase ≡ v.phase
  unfolding relocated
  phase-relocated = (rest-with_slot u from (Moved to)).phase ∙ (rest-with_slot v to (Object (object_of v from))).phase

  pub cursor-relocated : w.cursor ≡ v.cursor
  unfolding relocated
  cursor-relocated = (rest-with_slot u from (Moved to)).cursor ∙ (rest-with_slot v to (Object (object_of v from))).cursor

  pub counters-relocated : w.counters ≡ record v.counters { moves = v.counters.moves + 1 }
  unfolding relocated
  counters-relocated = ap (λ (c : Counters). record c { moves = c.moves + 1 })
      ((rest-with_slot u from (Moved to)).counters ∙ (rest-with_slot v to (Object (object_of v from))).counters)

  -- slots start where they did
  pub is_slot-relocated : (b : ℕ) → is_slot w b ≡ is_slot v b
  unfolding relocated is_slot
  is_slot-relocated b = is_slot-with_slot u from (Moved to) b ∙ is_slot-with_slot v to (Object (object_of v from)) b

  pools_same : (b : ℕ) → pool_with w b ≡ pool_with v b
  unfolding pool_with
  pools_same b = pool_at-relocated (page_of b)

  standing : has_object (slot_at v from) ≡ true
  unfolding is_occupied
  standing = occupied_from_object v from e

  freed : (b : ℕ) → is_free (slot_at w b) ≡ (is_free (slot_at v b) && not (nat_eq b to))
  freed b = part is_free b ∙ ⊎_elim
      (λ f.
      let stood : is_free (slot_at v b) ≡ false = ap (λ b. is_free (slot_at v b)) f ∙ taken (slot_at v from) standing in
      grind (arith, nat_tests, stood, f))
      (λ f. grind (arith, nat_tests, f))
      (cases_eq b from)
    where
      taken : (s : SlotView) → has_object s ≡ true → is_free s ≡ false
      taken Free e = sym e
      taken (Moved to) e = refl
      taken (Object o) e = refl

  -- the address to which the object was moved isn't free any more, and no other came to be free
  pub is_free_at-relocated : (q b : ℕ) → is_free_at w q b ≡ (is_free_at v q b && not (nat_eq b to))
  unfolding is_free_at
  is_free_at-relocated q b =
      (λ i. is_slot-relocated b i && (is_pool (pools_same b i) q && (freed b i && not (is_member nat_eq (unswept-relocated i) (page_of b)))))
      ∙ shuffle (is_slot v b) (is_pool (pool_with v b) q) (is_free (slot_at v b)) (not (nat_eq b to)) (not (is_unswept v (page_of b)))
    where
      shuffle : (a b c d e : Bool) → (a && (b && ((c && d) && e))) ≡ ((a && (b && (c && e))) && d)
      shuffle true true true true e = sym (ends e)
        where
          ends : (b : Bool) → (b && true) ≡ b
          ends true = refl
          ends false = refl
      shuffle true true true false e = sym (never e)
        where
          never : (b : Bool) → (b && false) ≡ false
          never true = refl
          never false = refl
      shuffle true true false d e = refl
      shuffle true false c d e = refl
      shuffle false b c d e = refl

  -- each of these at the address that the object left, at the one to which it was moved, and anywhere else
  pub is_occupied-relocated_from : is_occupied w from ≡ false
  unfolding is_occupied
  is_occupied-relocated_from = ap has_object slot_left

  pub is_occupied-relocated_to : is_occupied w to ≡ true
  unfolding is_occupied
  is_occupied-relocated_to = ap has_object slot_used

  pub is_occupied-relocated_other : (b : ℕ) → b ≢ from → b ≢ to → is_occupied w b ≡ is_occupied v b
  unfolding is_occupied
  is_occupied-relocated_other b f t = ap has_object (slot_elsewhere b f t)

  pub is_object-relocated_from : is_object w from ≡ false
  unfolding is_object
  is_object-relocated_from = ap has_present slot_left

  pub is_object-relocated_to : is_object w to ≡ true
  unfolding is_object
  is_object-relocated_to = ap has_present slot_used ∙ present

  pub is_object-relocated_other : (b : ℕ) → b ≢ from → b ≢ to → is_object w b ≡ is_object v b
  unfolding is_object
  is_object-relocated_other b f t = ap has_present (slot_elsewhere b f t)

  pub object_of-relocated_from : object_of w from ≡ no_object
  unfolding object_of
  object_of-relocated_from = ap object_in slot_left

  pub object_of-relocated_to : object_of w to ≡ object_of v from
  unfolding object_of
  object_of-relocated_to = ap object_in slot_used

  pub object_of-relocated_other : (b : ℕ) → b ≢ from → b ≢ to → object_of w b ≡ object_of v b
  unfolding object_of
  object_of-relocated_other b f t = ap object_in (slot_elsewhere b f t)

  pub is_moved-relocated_from : is_moved w from ≡ true
  unfolding is_moved
  is_moved-relocated_from = ap has_moved slot_left

  pub is_moved-relocated_to : is_moved w to ≡ false
  unfolding is_moved
  is_moved-relocated_to = ap has_moved slot_used

  pub is_moved-relocated_other : (b : ℕ) → b ≢ from → b ≢ to → is_moved w b ≡ is_moved v b
  unfolding is_moved
  is_moved-relocated_other b f t = ap has_moved (slot_elsewhere b f t)

  pub resolved-relocated_from : resolved w from ≡ to
  unfolding resolved
  resolved-relocated_from = ap (moved_in from) slot_left

  pub resolved-relocated_other : (word : ℕ) → word ≢ from → resolved w word ≡ resolved v word
  resolved-relocated_other word f = resolved-relocated word ∙ cond-false (nat_eq word from) to (resolved v word) (grind (arith, nat_tests))

  -- neither of the two addresses is free, and any other is as before
  pub is_free_at-relocated_from : (q : ℕ) → is_free_at w q from ≡ false
  unfolding is_free_at
  is_free_at-relocated_from q = by (is_slot w from) (is_pool (pool_with w from) q) (is_free (slot_at w from)) (not (is_unswept w (page_of from)))
      (ap is_free slot_left)
    where
      by : (a b c d : Bool) → c ≡ false → (a && (b && (c && d))) ≡ false
      by true true c d e = ap (λ c. c && d) e
      by true false c d e = refl
      by false b c d e = refl

  pub is_free_at-relocated_to : (q : ℕ) → is_free_at w q to ≡ false
  is_free_at-relocated_to q = let e = is_free_at-relocated q to in grind (arith, nat_tests, e)

  pub is_free_at-relocated_other : (q b : ℕ) → b ≢ to → is_free_at w q b ≡ is_free_at v q b
  is_free_at-relocated_other q b t = let e = is_free_at-relocated q b in grind (arith, nat_tests, e)

  -- the same objects are gone
  pub is_gone-relocated : (b : ℕ) → is_gone w b ≡ is_gone v b
  unfolding is_occupied object_of is_object
  is_gone-relocated b = part has_gone b ∙ ⊎_elim
      (λ f. cond-true (nat_eq b from) false (cond (nat_eq b to) (has_gone (Object (object_of v from))) (has_gone (slot_at v b))) (grind (arith, nat_tests))
      ∙ sym (ap (λ b. has_gone (slot_at v b)) f ∙ never (slot_at v from) e))
      (λ f. cond-false (nat_eq b from) false (cond (nat_eq b to) (has_gone (Object (object_of v from))) (has_gone (slot_at v b))) (grind (arith, nat_tests))
      ∙ ⊎_elim
      (λ t. cond-true (nat_eq b to) (has_gone (Object (object_of v from))) (has_gone (slot_at v b)) (grind (arith, nat_tests))
      ∙ still (slot_at v from) e
      ∙ sym (ap (λ b. has_gone (slot_at v b)) t ∙ ap has_gone parts.free))
      (λ t. cond-false (nat_eq b to) (has_gone (Object (object_of v from))) (has_gone (slot_at v b)) (grind (arith, nat_tests)))
      (cases_eq b to))
      (cases_eq b from)
    where
      not_true : (b : Bool) → not b ≡ true → b ≡ false
      not_true true e = sym e
      not_true false e = refl

      never : (s : SlotView) → has_present s ≡ true → has_gone s ≡ false
      never Free e = refl
      never (Moved to) e = refl
      never (Object o) e = not_true o.gone e

      still : (s : SlotView) → has_present s ≡ true → has_gone (Object (object_in s)) ≡ false
      still Free e = cc
      still (Moved to) e = cc
      still (Object o) e = not_true o.gone e

  slots-relocated : (page : ℕ) → length (page_at w page).slots ≡ length (page_at v page).slots
  unfolding relocated
  slots-relocated page = slots-with_slot u from (Moved to) page ∙ slots-with_slot v to (Object (object_of v from)) page

  pub sound_relocated : IsSoundHeap v → IsSoundHeap w
  sound_relocated sound =
      let count = count-relocated in
      let limit = limit-relocated in
      let limited = sound.limited in
      record {
        most = subst (λ n. n ≤ 4096) (sym limit) sound.most;
        limited = omega arith;
        known = λ page q its. sound.known page q (sym (pool_at-relocated page) ∙ its);
        long = λ page q its. slots-relocated page ∙ sound.long page q (sym (pool_at-relocated page) ∙ its);
        spare = λ page none. slots-relocated page ∙ sound.spare page (sym (pool_at-relocated page) ∙ none);
        waiting = unswept-relocated ∙ sound.waiting
            ∙ (λ i. filter (λ k. is_member nat_eq (sym unswept-relocated i) k) (range_with_len 0 (sym count i)));
        have_pools = λ page waits. ap is_some (pool_at-relocated page)
            ∙ sound.have_pools page (ap (λ xs. is_member nat_eq xs page) (sym unswept-relocated) ∙ waits);
      }

  -- nothing was grey and nothing is
  pub coherent_relocated : v.grey ≡ [] → IsCoherent v → IsCoherent w
  coherent_relocated none c =
      let grey : w.grey ≡ v.grey = grey-relocated in
      let empty : (a : ℕ) → is_member nat_eq w.grey a ≡ false = λ a. ap (λ xs. is_member nat_eq xs a) (grey ∙ none) in
      let colour : (a : ℕ) → colour_of w a ≡ cond (nat_eq a from) White (cond (nat_eq a to) (colour_of v from) (colour_of v a)) = λ a.
      ap (λ (o : ObjectView). o.colour) (object_of-relocated a)
      ∙ cond_ap (λ (o : ObjectView). o.colour) (nat_eq a from) _ _
      ∙ ap (cond (nat_eq a from) White) (cond_ap (λ (o : ObjectView). o.colour) (nat_eq a to) _ _) in
      record {
        once = subst (IsDistinct nat_eq) (sym grey) c.once;
        grey_listed = λ a g. absurd (grind (arith, nat_tests, g, colour a, none_grey v from c none, none_grey v a c none));
        listed_grey = λ a m. let e = empty a in cc;
        present = λ a m. let e = empty a in cc;
      }
