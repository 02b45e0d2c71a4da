-- The words of an object's fields, resolved, are those of its name's values: so one of them is the address of an object exactly where the object's
-- name is a child.
use Rattle.std.proofs.Common.{◌≡◌, ℕ, suc, ◌+◌, true, List, [], ◌∷◌, map, nat_eq, refl, sym, ap, ◌∙◌, subst, arith, ⊎_elim, Option, None, Some}
use Rattle.std.specs.Prelude.{slice_get}
use Rattle.std.specs.Option.{unwrap_or}
use Rattle.std.specs.List.{flat_map}
use Rattle.std.specs.Set.{is_member}
use Rattle.std.specs.FinMap.{get}
use Rattle.std.proofs.lemmas.Bool.{eqb-true, eq-eqb, or_cases, or_left, or_right, false≢true}
use Rattle.space_model.specs.declared.value.Value.{Value}
use Rattle.space_model.specs.declared.value.Value.TheVariants.{Nil, Small, Name}
use Rattle.space_model.specs.Graph.{Item, item_of, names_of, children, IsChild}
use Rattle.space_model.specs.Operands.{value_word}
use Rattle.space_model.specs.State.{State}
use Rattle.space_model.specs.StoredWords.{stored_word, map_from}
use Rattle.space_model.proofs.Members.{member_left, member_right, member_cases}
use Rattle.space_model.proofs.ValuesKept.{placed_present, present_kept}
use Rattle.space_heap.specs.Objects.{is_object, resolved}
use Rattle.space_compact.specs.Pins.{child_words}
use Rattle.space_engine.specs.Stands.{Holds}
use Rattle.space_engine.specs.Views.{View}
use Rattle.space_engine.proofs.FieldWords.{nothing_at_zero, nothing_at_odd}
use Rattle.space_engine.proofs.Resolving.{stored_resolved}

children_are : (graph : List Item) (name : ℕ) → children graph name ≡ flat_map names_of (item_of graph name).values
unfolding children
children_are graph name = refl

-- the words of a list of values, each of which becomes another word
words_become : (f : ℕ → ℕ) (g : ℕ → Value → ℕ) (w : Value → ℕ) (index : ℕ) (values : List Value) →
    ((i : ℕ) (value : Value) → slice_get values i ≡ Some value → f (g (index + i) value) ≡ w value) → map f (map_from g index values) ≡ map w values
words_become f g w index [] each = refl
words_become f g w index (value ∷ values) each =
    let first : f (g index value) ≡ w value = subst (λ k. f (g k value) ≡ w value) (omega arith) (each 0 value refl) in
    let rest = words_become f g w (index + 1) values (λ i v e. subst (λ k. f (g k v) ≡ w v) (omega arith) (each (suc i) v e)) in
    λ j. first j ∷ rest j

module _ (v : View) (s : State) (h : Holds v s) where
  abbrev IsAt : ℕ → ℕ → Type 0
  IsAt name address = get s.heap.place name ≡ Some address

  -- the words of an object's fields, once they are resolved
  pub child_words_are : (name address : ℕ) → get s.heap.place name ≡ Some address →
      child_words v.heap address ≡ map (value_word s.heap.place) (item_of s.graph name).values
  child_words_are name address at =
      ap (map (resolved v.heap)) (h.represents.heap.objects.is name address at).fields
      ∙ words_become (resolved v.heap) (stored_word s.heap.place s.heap.left s.collector.stale name) (value_word s.heap.place) 0
      (item_of s.graph name).values
      (λ i value e.
      let z : i ≡ 0 + i = omega arith in
      subst
      (λ (k : ℕ). resolved v.heap (stored_word s.heap.place s.heap.left s.collector.stale name k value) ≡ value_word s.heap.place value) z
      (stored_resolved v s h name i value e
      ((present_kept s h.sound).field name i value (placed_present s.heap.place name address at) e)))

  -- no object stands where the word of nil or of a small integer would have it
  present : (name address : ℕ) → IsAt name address → is_object v.heap address ≡ true
  present name address at = h.represents.heap.objects.stands name address at

  not_zero : (name address : ℕ) → IsAt name address → address ≡ 0 → ⊥
  not_zero name address at e = false≢true (sym (ap (is_object v.heap) e ∙ nothing_at_zero v s h) ∙ present name address at)

  -- the value whose word is the address of an object is its name
  value_at : (value : Value) (name address : ℕ) → IsAt name address → address ≡ value_word s.heap.place value →
      is_member nat_eq (names_of value) name ≡ true
  value_at Nil name address at e = absurd (not_zero name address at e)
  value_at (Small number) name address at e =
      absurd (false≢true (sym (ap (is_object v.heap) e ∙ nothing_at_odd v s h number) ∙ present name address at))
  value_at (Name other) name address at e = placed_at (get s.heap.place other) refl e
    where
      placed_at : (o : Option ℕ) → get s.heap.place other ≡ o → address ≡ unwrap_or o 0 → is_member nat_eq (names_of (Name other)) name ≡ true
      placed_at None its e = absurd (not_zero name address at e)
      placed_at (Some a) its e = or_left _ _ (eq-eqb name other (h.sound.layout.placed.once name other address at (its ∙ ap Some (sym e))))

  -- the word of a value that is a name is its address
  word_at : (value : Value) (name address : ℕ) → is_member nat_eq (names_of value) name ≡ true → IsAt name address → address ≡ value_word s.heap.place value
  word_at Nil name address m at = absurd (false≢true m)
  word_at (Small number) name address m at = absurd (false≢true m)
  word_at (Name other) name address m at = ⊎_elim
      (λ e. ap (λ (o : Option ℕ). unwrap_or o 0) (sym at ∙ ap (get s.heap.place) (eqb-true name other e)))
      (λ f. absurd (false≢true f))
      (or_cases _ _ m)

  -- an address among the words of values, and its name among the names
  held_by : (values : List Value) (name address : ℕ) → IsAt name address → is_member nat_eq (map (value_word s.heap.place) values) address ≡ true →
      is_member nat_eq (flat_map names_of values) name ≡ true
  held_by [] name address at m = absurd (false≢true m)
  held_by (value ∷ values) name address at m = ⊎_elim
      (λ e. member_left (names_of value) _ name (value_at value name address at (eqb-true address (value_word s.heap.place value) e)))
      (λ t. member_right (names_of value) _ name (held_by values name address at t))
      (or_cases _ _ m)

  holds : (values : List Value) (name address : ℕ) → IsAt name address → is_member nat_eq (flat_map names_of values) name ≡ true →
      is_member nat_eq (map (value_word s.heap.place) values) address ≡ true
  holds [] name address at m = absurd (false≢true m)
  holds (value ∷ values) name address at m = ⊎_elim
      (λ k. or_left _ _ (eq-eqb address (value_word s.heap.place value) (word_at value name address k at)))
      (λ t. or_right (nat_eq address (value_word s.heap.place value)) _ (holds values name address at t))
      (member_cases (names_of value) (flat_map names_of values) name m)

  -- the address of a child is among the words of its parent's fields, and no other address of an object is
  pub child_from_word : (parent a name address : ℕ) → get s.heap.place parent ≡ Some a → get s.heap.place name ≡ Some address →
      is_member nat_eq (child_words v.heap a) address ≡ true → IsChild s.graph parent name
  child_from_word parent a name address from at m =
      ap (λ names. is_member nat_eq names name) (children_are s.graph parent)
      ∙ held_by (item_of s.graph parent).values name address at (ap (λ words. is_member nat_eq words address) (sym (child_words_are parent a from)) ∙ m)

  pub word_from_child : (parent a name address : ℕ) → get s.heap.place parent ≡ Some a → get s.heap.place name ≡ Some address →
      IsChild s.graph parent name → is_member nat_eq (child_words v.heap a) address ≡ true
  word_from_child parent a name address from at child =
      ap (λ words. is_member nat_eq words address) (child_words_are parent a from)
      ∙ holds (item_of s.graph parent).values name address at (ap (λ names. is_member nat_eq names name) (sym (children_are s.graph parent)) ∙ child)
