-- The part Generations after a field was written: with the write barrier where it protects the object, and without it where it doesn't.
use Rattle.std.proofs.Common.{◌≡◌, ℕ, ◌<◌, ◌≤◌, Bool, true, false, min, if◌then◌else◌, true≢false, List, length, nat_eq, refl, sym, ap, ◌∙◌, subst, Option, Some, ⊎_elim, inl, inr}
use Rattle.std.specs.Prelude.{is_some}
use Rattle.std.specs.Option.{unwrap_or}
use Rattle.std.specs.Ordering.{nat_cmp}
use Rattle.std.specs.Set.{is_member}
use Rattle.std.specs.FinMap.{FinMap, get}
use Rattle.std.proofs.lemmas.Bool.{cases_Bool, or_cases, eqb-true, false≢true}
use Rattle.space_model.specs.declared.value.Value.{Value}
use Rattle.space_model.specs.declared.value.Value.TheVariants.{Nil, Small, Name}
use Rattle.space_model.specs.Ages.{is_protected_guard, is_protected, outlived_by, is_old_in}
use Rattle.space_model.specs.Graph.{Item, item_of, with_item, names_of, IsChild}
use Rattle.space_model.specs.Moments.{mixed_names, with_names}
use Rattle.space_model.specs.Operands.{value_word}
use Rattle.space_model.specs.Pieces.{item_written, field_written}
use Rattle.space_model.specs.State.{State, Collector}
use Rattle.space_model.specs.StoredWords.{without_pair}
use Rattle.space_model.proofs.MapLaws.{some_get}
use Rattle.space_model.proofs.ValuesKept.{IsPresentValue, name_present}
use Rattle.space_heap.specs.Slots.{ObjectView}
use Rattle.space_heap.specs.HeapView.{HeapView}
use Rattle.space_heap.specs.Marking.{colour_of}
use Rattle.space_heap.specs.Objects.{is_occupied, is_object, object_of, written}
use Rattle.space_heap.specs.Generations.{is_old, is_aged, is_protected_at}
use Rattle.space_heap.proofs.ObjectLaws.{stays, occupied_from_object}
use Rattle.space_barrier.specs.Barrier.{stored}
use Rattle.space_barrier.proofs.StoreLaws.{is_object-written}
use Rattle.space_tracing.proofs.Same.{same_part}
use Rattle.space_engine.specs.Generations.{HasGenerations}
use Rattle.space_engine.specs.Stands.{Holds}
use Rattle.space_engine.specs.Views.{View}
use Rattle.space_engine.proofs.BarredStores.{IsBarred, stored_is, stored_remembers, stored_surely}
use Rattle.space_engine.proofs.FieldWords.{nothing_at_zero, nothing_at_odd, field_count}
use Rattle.space_engine.proofs.GenerationsByName.{KeepsMarks, same_marks, noted_more, noted_now, old_by_name, aged_protected, generations_kept}
use Rattle.space_engine.proofs.Outcomes.{some_same}
use Rattle.space_engine.proofs.WrittenChildren.{written_guards, written_protects, written_children, written_child, mixed_member}

-- the word of a value that is a child is the child's place
pub child_word : (place : FinMap nat_cmp ℕ) (value : Value) (child c : ℕ) → is_member nat_eq (names_of value) child ≡ true → get place child ≡ Some c →
    value_word place value ≡ c
child_word place Nil child c m at = absurd (false≢true m)
child_word place (Small number) child c m at = absurd (false≢true m)
child_word place (Name name) child c m at = ⊎_elim
    (λ same. ap (λ n. value_word place (Name n)) (sym (eqb-true child name same)) ∙ ap (λ (o : Option ℕ). unwrap_or o 0) at)
    (λ none. absurd (false≢true none))
    (or_cases (nat_eq child name) false m)

module _ (v : View) (s : State) (h : Holds v s) where
  -- a present value whose word names an object is a name that stands there
  pub named_value : (value : Value) → IsPresentValue s.heap.place value → is_object v.heap (value_word s.heap.place value) ≡ true →
      (child : ℕ) × (value ≡ Name child) × (get s.heap.place child ≡ Some (value_word s.heap.place value))
  named_value Nil present is = absurd (true≢false (sym is ∙ nothing_at_zero v s h))
  named_value (Small number) present is = absurd (true≢false (sym is ∙ nothing_at_odd v s h number))
  named_value (Name child) present is =
      let at = some_get (get s.heap.place child) (name_present s.heap.place child present) in
      (child, refl, at.1 ∙ ap (λ (o : Option ℕ). Some (unwrap_or o 0)) (sym at.1))

module _ (v : View) (s : State) (h : Holds v s) (name address index : ℕ) (value : Value) (at : get s.heap.place name ≡ Some address) where
  abbrev graph' : List Item
  graph' = with_item s.graph name (item_written (item_of s.graph name) index value)

  abbrev mixed' : List ℕ
  mixed' = with_names (mixed_names (field_written s name index value)) s.history.mixed

  abbrev collector' : Collector
  collector' = let c : Collector = s.collector in record c { stale = without_pair c.stale name index }

  abbrev word : ℕ
  word = value_word s.heap.place value

  abbrev w : HeapView
  w = written v.heap address index word

  abbrev z : HeapView
  z = stored v.heap address index word

  some_name : 0 < name
  some_name = (h.sound.layout.placed.allocated name address at).0

  most_name : name ≤ length s.graph
  most_name = (h.sound.layout.placed.allocated name address at).1

  there : is_occupied v.heap address ≡ true
  there = occupied_from_object v.heap address (h.represents.heap.objects.stands name address at)

  protects : (n a : ℕ) → get s.heap.place n ≡ Some a → is_protected graph' n ≡ is_protected s.graph n
  protects n a e = written_protects s.graph name index value some_name most_name n (h.sound.layout.placed.allocated n a e).0

  -- only the fields of one object changed by the write

  guard_written : (b : ℕ) → (object_of w b).guard ≡ (object_of v.heap b).guard
  guard_written b = stays (λ (o : ObjectView). o.guard) v.heap address _ b refl

  age_written : (b : ℕ) → (object_of w b).age ≡ (object_of v.heap b).age
  age_written b = stays (λ (o : ObjectView). o.age) v.heap address _ b refl

  kept_written : (b : ℕ) → (object_of w b).kept ≡ (object_of v.heap b).kept
  kept_written b = stays (λ (o : ObjectView). o.kept) v.heap address _ b refl

  remembered_written : (b : ℕ) → (object_of w b).remembered ≡ (object_of v.heap b).remembered
  remembered_written b = stays (λ (o : ObjectView). o.remembered) v.heap address _ b refl

  old_written : (b : ℕ) → is_old (object_of w b) ≡ is_old (object_of v.heap b)
  old_written b = stays is_old v.heap address _ b refl

  aged_written : (b : ℕ) → is_aged (object_of w b) ≡ is_aged (object_of v.heap b)
  aged_written b = stays is_aged v.heap address _ b refl

  protected_written : (b : ℕ) → is_protected_at w b ≡ is_protected_at v.heap b
  protected_written b = stays (λ (o : ObjectView). is_protected_guard o.guard) v.heap address _ b refl

  colour_written : (b : ℕ) → colour_of w b ≡ colour_of v.heap b
  colour_written b = stays (λ (o : ObjectView). o.colour) v.heap address _ b refl

  -- the object at the place of a name is protected where it has age 2 or more
  protected_here : (n a : ℕ) → get s.heap.place n ≡ Some a → is_aged (object_of v.heap a) ≡ true → is_protected_at v.heap a ≡ true
  protected_here n a e aged =
      ap is_protected_guard (h.represents.heap.objects.is n a e).guard
      ∙ aged_protected s.graph s.collector.outlived n (object_of v.heap a) (h.represents.generations.ages n a e) aged

  parent_here : (parent a : ℕ) → parent ≡ name → get s.heap.place parent ≡ Some a → a ≡ address
  parent_here parent a same e = some_same a address (sym e ∙ ap (get s.heap.place) same ∙ at)

  -- without the barrier

  pub generations_raw : is_protected_at v.heap address ≡ false → HasGenerations graph' s.heap.place collector' mixed' w
  generations_raw free =
      generations_kept s.graph graph' s.heap.place s.collector s.history.mixed mixed' v.heap w h.represents.generations protects
      (noted_more (mixed_names (field_written s name index value)) s.history.mixed)
      (λ n a e. same_marks mixed' n (object_of v.heap a) (object_of w a) (guard_written a) (age_written a) (kept_written a) (remembered_written a))
      (λ parent child a c pat cat is aged out. ⊎_elim
      (λ was. inl was)
      (λ (same, m).
      let here : a ≡ address = parent_here parent a same pat in
      let protected : is_protected_at v.heap a ≡ true = protected_here parent a pat aged in
      absurd (true≢false (sym protected ∙ ap (is_protected_at v.heap) here ∙ free)))
      (written_children s.graph name index value some_name most_name parent child (h.sound.layout.placed.allocated parent a pat).0 is))
      s.collector.phase s.collector.cursor (without_pair s.collector.stale name index) (λ rest. rest) (λ marking. marking)
      (λ marking n a e scanned. sym (colour_written a) ∙ scanned)

  -- with the barrier

  barrier : IsBarred w z address word
  barrier = stored_is v.heap address index word there

  module _ (present : IsPresentValue s.heap.place value) (field : index < length (object_of v.heap address).fields) where
    -- where the word names an object that isn't old, the name has a child that isn't old
    mixed_now : is_object w word ≡ true → is_old (object_of w word) ≡ false → is_member nat_eq mixed' name ≡ true
    mixed_now named young =
        let c = named_value v s h value present (sym (is_object-written v.heap address index word word) ∙ named) in
        let born = h.sound.layout.placed.allocated c.0 word c.2 in
        let many : index < length (item_of s.graph name).values = subst (λ n. index < n) (field_count v s h name address index at) field in
        let is : IsChild graph' name c.0 =
        subst (λ (value : Value). IsChild (with_item s.graph name (item_written (item_of s.graph name) index value)) name c.0) (sym c.1)
        (written_child s.graph name index c.0 some_name most_name many) in
        let old_is : is_old_in graph' s.heap.place s.collector.outlived c.0 ≡ is_old (object_of v.heap word) =
        old_by_name graph' s.heap.place s.collector.outlived c.0 word (object_of v.heap word) c.2
        ((h.represents.heap.objects.is c.0 word c.2).guard ∙ sym (written_guards s.graph name index value some_name most_name c.0 born.0))
        (h.represents.generations.ages c.0 word c.2
        ∙ ap (λ (b : Bool). if b then min (outlived_by s.collector.outlived c.0) 3 else 0) (sym (protects c.0 word c.2))) in
        noted_now (mixed_names (field_written s name index value)) s.history.mixed name
        (mixed_member graph' s.heap.place s.collector.outlived name c.0 (ap is_some at) is (old_is ∙ sym (old_written word) ∙ young))

    marks_stored : (n a : ℕ) → get s.heap.place n ≡ Some a → KeepsMarks mixed' n (object_of v.heap a) (object_of z a)
    marks_stored n a e = record {
      guard = same_part (λ (o : ObjectView). o.guard) w z a barrier.same ∙ guard_written a;
      age = same_part (λ (o : ObjectView). o.age) w z a barrier.same ∙ age_written a;
      kept = barrier.kept a ∙ kept_written a;
      still = λ r. barrier.still a (remembered_written a ∙ r);
      by = λ r. ⊎_elim
          (λ same. inl (sym (same ∙ remembered_written a) ∙ r))
          (λ (here, aged, young, named).
          let this : n ≡ name = h.sound.layout.placed.once n name address (e ∙ ap Some here) at in
          inr (
            ap (λ b. is_aged (object_of v.heap b)) here ∙ sym (aged_written address) ∙ aged,
            ap (is_member nat_eq mixed') this ∙ mixed_now named young,
          ))
          (stored_remembers v.heap address index word there a);
    }

    -- the child that an object of age 2 or more got is old where the object isn't remembered
    child_stored : (parent child a c : ℕ) → get s.heap.place parent ≡ Some a → get s.heap.place child ≡ Some c → parent ≡ name →
        is_member nat_eq (names_of value) child ≡ true → is_aged (object_of v.heap a) ≡ true → (object_of z a).remembered ≡ false →
        is_old (object_of v.heap c) ≡ true
    child_stored parent child a c pat cat same m aged_parent out =
        let here : a ≡ address = parent_here parent a same pat in
        let is : word ≡ c = child_word s.heap.place value child c m cat in
        let named : is_object w word ≡ true =
        is_object-written v.heap address index word word ∙ ap (is_object v.heap) is ∙ h.represents.heap.objects.stands child c cat in
        let aged_here : is_aged (object_of v.heap address) ≡ true = ap (λ b. is_aged (object_of v.heap b)) (sym here) ∙ aged_parent in
        let protected : is_protected_at w address ≡ true = protected_written address ∙ protected_here name address at aged_here in
        let aged : is_aged (object_of w address) ≡ true = aged_written address ∙ aged_here in
        ⊎_elim
        (λ (old_child : is_old (object_of w word) ≡ true). ap (λ b. is_old (object_of v.heap b)) (sym is) ∙ sym (old_written word) ∙ old_child)
        (λ (young : is_old (object_of w word) ≡ false).
        absurd (true≢false (sym (stored_surely v.heap address index word there named protected aged young)
        ∙ ap (λ b. (object_of z b).remembered) (sym here) ∙ out)))
        (cases_Bool (is_old (object_of w word)))

    pub generations_stored : HasGenerations graph' s.heap.place collector' mixed' z
    generations_stored =
        generations_kept s.graph graph' s.heap.place s.collector s.history.mixed mixed' v.heap z h.represents.generations protects
        (noted_more (mixed_names (field_written s name index value)) s.history.mixed) marks_stored
        (λ parent child a c pat cat is aged out. ⊎_elim
        (λ was. inl was)
        (λ (same, m). inr (child_stored parent child a c pat cat same m aged out))
        (written_children s.graph name index value some_name most_name parent child (h.sound.layout.placed.allocated parent a pat).0 is))
        s.collector.phase s.collector.cursor (without_pair s.collector.stale name index) (λ rest. rest) (λ marking. marking)
        (λ marking n a e scanned. sym (colour_written a) ∙ barrier.black a scanned)
