-- What stands after a word was visited, also one that a field of an object of age 2 or more has.
use Rattle.std.proofs.Common.{◌≡◌, ⊎_elim, ℕ, Bool, true, false, not, ◌&&◌, ◌++◌, ◌∷◌, [], nat_lt, refl, sym, ap, ◌∙◌, subst}
use Rattle.std.proofs.lemmas.Bool.{cases_Bool, cond-true, cond-false}
use Rattle.space_model.specs.Ages.{is_protected_guard}
use Rattle.space_model.specs.Layout.{page_of}
use Rattle.space_heap.specs.declared.colour.Colour.TheVariants.{Grey}
use Rattle.space_heap.specs.Slots.{ObjectView}
use Rattle.space_heap.specs.HeapView.{HeapView, slot_number}
use Rattle.space_heap.specs.Objects.{is_occupied, is_object, object_of}
use Rattle.space_heap.specs.Marking.{colour_of, is_white, visited, greyed}
use Rattle.space_heap.specs.Generations.{is_protected_at, kept_at, visited_by_aged, is_young_word}
use Rattle.space_heap.specs.words.SlotPlaces.{IsPlace}
use Rattle.space_heap.proofs.MarkingLaws.{is_slot-recoloured, is_occupied-recoloured, is_object-recoloured, stays-recoloured, pool_at-recoloured, visited_same}

module _ (v : HeapView) (w : ℕ) where
  by_visit : (P : HeapView → Type 0) → P v → P (greyed v w) → P (visited v w)
  by_visit P same grey =
      let b : Bool = is_object v w && is_white (colour_of v w) in
      ⊎_elim
      (λ t. subst P (sym (cond-true b (greyed v w) v t)) grey)
      (λ f. subst P (sym (cond-false b (greyed v w) v f)) same)
      (cases_Bool b)

  pub is_occupied-visited : (a : ℕ) → is_occupied (visited v w) a ≡ is_occupied v a
  is_occupied-visited a = by_visit (λ u. is_occupied u a ≡ is_occupied v a) refl (is_occupied-recoloured v w Grey (v.grey ++ w ∷ []) a)

  is_object-visited : (a : ℕ) → is_object (visited v w) a ≡ is_object v a
  is_object-visited a = by_visit (λ u. is_object u a ≡ is_object v a) refl (is_object-recoloured v w Grey (v.grey ++ w ∷ []) a)

  guard-visited : (a : ℕ) → is_protected_at (visited v w) a ≡ is_protected_at v a
  guard-visited a = by_visit (λ u. is_protected_at u a ≡ is_protected_at v a) refl
      (stays-recoloured v w Grey (v.grey ++ w ∷ []) (λ (o : ObjectView). is_protected_guard o.guard) a refl)

  pub place-visited : (a page slot : ℕ) → IsPlace v a page slot → IsPlace (visited v w) a page slot
  place-visited a page slot p = by_visit (λ u. IsPlace u a page slot) p (record {
    is = is_slot-recoloured v w Grey (v.grey ++ w ∷ []) a ∙ p.is;
    on_page = p.on_page;
    in_slot = p.in_slot ∙ ap (λ pool. slot_number pool a) (sym (pool_at-recoloured v w Grey (v.grey ++ w ∷ []) (page_of a)));
  })

  -- a word that names no object
  pub aged_none : is_object v w ≡ false → visited_by_aged v w ≡ v
  aged_none none =
      cond-false (is_object (visited v w) w && not (is_protected_at (visited v w) w)) (kept_at (visited v w) w) (visited v w)
      (ap (λ b. b && not (is_protected_at (visited v w) w)) (is_object-visited w ∙ none))
      ∙ visited_same v w (ap (λ b. b && is_white (colour_of v w)) none)

  pub young_none : is_object v w ≡ false → false ≡ is_young_word v w
  young_none none = sym (ap (λ b. b && (is_protected_at v w && nat_lt (object_of v w).age 2)) none)

  -- one that names a protected object
  pub aged_protected : is_object v w ≡ true → is_protected_at v w ≡ true → visited_by_aged v w ≡ visited v w
  aged_protected some protected =
      cond-false (is_object (visited v w) w && not (is_protected_at (visited v w) w)) (kept_at (visited v w) w) (visited v w)
      (ap (λ b. b && not (is_protected_at (visited v w) w)) (is_object-visited w ∙ some) ∙ ap not (guard-visited w ∙ protected))

  pub young_protected : is_object v w ≡ true → is_protected_at v w ≡ true → nat_lt (object_of v w).age 2 ≡ is_young_word v w
  young_protected some protected = sym (ap (λ b. b && (is_protected_at v w && nat_lt (object_of v w).age 2)) some
      ∙ ap (λ b. b && nat_lt (object_of v w).age 2) protected)

  -- one that names an unprotected object
  pub aged_unprotected : is_object v w ≡ true → is_protected_at v w ≡ false → visited_by_aged v w ≡ kept_at (visited v w) w
  aged_unprotected some unprotected =
      cond-true (is_object (visited v w) w && not (is_protected_at (visited v w) w)) (kept_at (visited v w) w) (visited v w)
      (ap (λ b. b && not (is_protected_at (visited v w) w)) (is_object-visited w ∙ some) ∙ ap not (guard-visited w ∙ unprotected))

  pub young_unprotected : is_object v w ≡ true → is_protected_at v w ≡ false → false ≡ is_young_word v w
  young_unprotected some unprotected = sym (ap (λ b. b && (is_protected_at v w && nat_lt (object_of v w).age 2)) some
      ∙ ap (λ b. b && nat_lt (object_of v w).age 2) unprotected)
