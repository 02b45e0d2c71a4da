-- The colours in a marking after a field was written: with the write barrier where it protects the object, and without it where it doesn't.
use Rattle.std.proofs.Common.{◌≡◌, ◌⊎◌, ℕ, false, true, true≢false, List, nat_eq, refl, sym, ap, ◌∙◌, subst, Some, ⊎_elim, inl, inr}
use Rattle.std.specs.Set.{is_member}
use Rattle.std.specs.FinMap.{get}
use Rattle.std.proofs.lemmas.Bool.{or_left, eq-eqb}
use Rattle.space_model.specs.declared.phase.Phase.TheVariants.{Marking}
use Rattle.space_model.specs.declared.value.Value.{Value}
use Rattle.space_model.specs.Ages.{is_protected_guard, is_protected}
use Rattle.space_model.specs.Graph.{names_of, IsChild}
use Rattle.space_model.specs.Moments.{mixed_names, with_names, noted}
use Rattle.space_model.specs.Operands.{value_word}
use Rattle.space_model.specs.Pieces.{field_written}
use Rattle.space_model.specs.Reached.{reached_names}
use Rattle.space_model.specs.State.{State}
use Rattle.space_model.proofs.ValuesKept.{IsPresentValue, IsReachedValue}
use Rattle.space_heap.specs.Slots.{ObjectView}
use Rattle.space_heap.specs.HeapView.{HeapView}
use Rattle.space_heap.specs.Generations.{is_protected_at}
use Rattle.space_heap.specs.Marking.{colour_of}
use Rattle.space_heap.specs.Objects.{is_occupied, is_object, written}
use Rattle.space_heap.proofs.ObjectLaws.{stays, occupied_from_object, rest-with_object}
use Rattle.space_barrier.specs.Barrier.{stored}
use Rattle.space_barrier.proofs.StoreLaws.{is_object-written}
use Rattle.space_tracing.specs.Marking.{IsMarked}
use Rattle.space_engine.specs.Colours.{IsBlack, HasColours}
use Rattle.space_engine.specs.Stands.{Holds}
use Rattle.space_engine.specs.Views.{View}
use Rattle.space_engine.proofs.BarredStores.{IsBarred, stored_is, stored_marks}
use Rattle.space_engine.proofs.ColoursKept.{SameBlack, colours_kept}
use Rattle.space_engine.proofs.GenerationsByName.{noted_more}
use Rattle.space_engine.proofs.GenerationsStored.{child_word, named_value}
use Rattle.space_engine.proofs.Outcomes.{some_same}
use Rattle.space_engine.proofs.WrittenChildren.{written_protects, written_children}

module _ (v : View) (s : State) (h : Holds v s) (name address index : ℕ) (value : Value) (at : get s.heap.place name ≡ Some address) where
  abbrev t : State
  t = field_written s name index value

  abbrev seen' : List ℕ
  seen' = with_names (reached_names t) s.history.seen

  abbrev word : ℕ
  word = value_word s.heap.place value

  abbrev w : HeapView
  w = written v.heap address index word

  abbrev z : HeapView
  z = stored v.heap address index word

  there : is_occupied v.heap address ≡ true
  there = occupied_from_object v.heap address (h.represents.heap.objects.stands name address at)

  -- a field has no colour
  colour_written : (a : ℕ) → colour_of w a ≡ colour_of v.heap a
  colour_written a = stays (λ (o : ObjectView). o.colour) v.heap address _ a refl

  marked_written : (a : ℕ) → IsMarked w a → IsMarked v.heap a
  marked_written a m e = m (colour_written a ∙ e)

  black_written : SameBlack v.heap w
  black_written = record { still = λ a e. colour_written a ∙ e; only = λ a e. sym (colour_written a) ∙ e }

  more : (n : ℕ) → is_member nat_eq s.history.seen n ≡ true → is_member nat_eq seen' n ≡ true
  more = noted_more (reached_names t) s.history.seen

  parent_here : (parent a : ℕ) → parent ≡ name → get s.heap.place parent ≡ Some a → a ≡ address
  parent_here parent a same e = some_same a address (sym e ∙ ap (get s.heap.place) same ∙ at)

  -- the write barrier protects the object where it protects its name
  protected_object : (parent a : ℕ) → get s.heap.place parent ≡ Some a → is_protected t.graph parent ≡ true → is_protected_at v.heap a ≡ true
  protected_object parent a e protected =
      let b = h.sound.layout.placed.allocated name address at in
      ap is_protected_guard (h.represents.heap.objects.is parent a e).guard
      ∙ sym (written_protects s.graph name index value b.0 b.1 parent (h.sound.layout.placed.allocated parent a e).0) ∙ protected

  -- a child is one from before, or the object that the field got
  cases : (parent child a : ℕ) → get s.heap.place parent ≡ Some a → IsChild t.graph parent child → is_protected t.graph parent ≡ true →
      (IsChild s.graph parent child × (is_protected s.graph parent ≡ true)) ⊎ ((parent ≡ name) × (is_member nat_eq (names_of value) child ≡ true))
  cases parent child a e is protected =
      let b = h.sound.layout.placed.allocated name address at in
      let some = (h.sound.layout.placed.allocated parent a e).0 in
      ⊎_elim
      (λ was. inl (was, sym (written_protects s.graph name index value b.0 b.1 parent some) ∙ protected))
      (λ got. inr got)
      (written_children s.graph name index value b.0 b.1 parent child some is)

  -- without the barrier

  pub colours_raw : is_protected_at v.heap address ≡ false → HasColours (noted t).graph s.heap.place (noted t).history s.collector.phase w
  colours_raw free phase =
      colours_kept s.graph t.graph s.heap.place s.history seen' (with_names (mixed_names t) s.history.mixed) v.heap w (h.represents.colours phase) more
      black_written (λ a m e. m (sym (colour_written a) ∙ e)) (λ n a e m. inl (marked_written a m))
      (λ parent child a c pat cat is protected black. ⊎_elim
      (λ was. inl was)
      (λ (same, m). absurd (true≢false (sym (protected_object parent a pat protected) ∙ ap (is_protected_at v.heap) (parent_here parent a same pat) ∙ free)))
      (cases parent child a pat is protected))

  -- with the barrier

  barrier : IsBarred w z address word
  barrier = stored_is v.heap address index word there

  black_stored : SameBlack v.heap z
  black_stored = record { still = λ a e. barrier.still_black a (black_written.still a e); only = λ a e. black_written.only a (barrier.black a e) }

  -- the child that a protected black object got is marked
  child_marked : s.collector.phase ≡ Marking → (parent child a c : ℕ) → get s.heap.place parent ≡ Some a → get s.heap.place child ≡ Some c →
      is_protected t.graph parent ≡ true → IsBlack z a → parent ≡ name → is_member nat_eq (names_of value) child ≡ true → IsMarked z c
  child_marked phase parent child a c pat cat protected black same m =
      let here : a ≡ address = parent_here parent a same pat in
      let is : word ≡ c = child_word s.heap.place value child c m cat in
      let named : is_object w word ≡ true =
      is_object-written v.heap address index word word ∙ ap (is_object v.heap) is ∙ h.represents.heap.objects.stands child c cat in
      let phase_is : w.phase ≡ Marking = (rest-with_object v.heap address _).phase ∙ h.represents.heap.progress.at ∙ phase in
      let guarded : is_protected_at w address ≡ true =
      stays (λ (o : ObjectView). is_protected_guard o.guard) v.heap address _ address refl
      ∙ ap (is_protected_at v.heap) (sym here) ∙ protected_object parent a pat protected in
      let black_here : colour_of w address ≡ _ = ap (colour_of w) (sym here) ∙ barrier.black a black in
      subst (IsMarked z) is (stored_marks v.heap address index word there phase_is black_here named guarded)

  -- the object that became grey is that of the value
  seen_stored : IsPresentValue s.heap.place value → IsReachedValue s value → (n a : ℕ) → get s.heap.place n ≡ Some a → a ≡ word →
      is_member nat_eq seen' n ≡ true
  seen_stored present reached n a e same =
      let named : is_object v.heap word ≡ true = ap (is_object v.heap) (sym same) ∙ h.represents.heap.objects.stands n a e in
      let c = named_value v s h value present named in
      let this : n ≡ c.0 = h.sound.layout.placed.once n c.0 word (e ∙ ap Some same) c.2 in
      let held : is_member nat_eq (names_of value) n ≡ true =
      ap (λ (value : Value). is_member nat_eq (names_of value) n) c.1 ∙ or_left (nat_eq n c.0) false (eq-eqb n c.0 this) in
      more n (h.sound.moments.seen n (reached n held))

  pub colours_stored : IsPresentValue s.heap.place value → IsReachedValue s value →
      HasColours (noted t).graph s.heap.place (noted t).history s.collector.phase z
  colours_stored present reached phase =
      colours_kept s.graph t.graph s.heap.place s.history seen' (with_names (mixed_names t) s.history.mixed) v.heap z (h.represents.colours phase) more
      black_stored (λ a m. barrier.marked a (λ e. m (sym (colour_written a) ∙ e)))
      (λ n a e m. ⊎_elim (λ was. inl (marked_written a was)) (λ same. inr (seen_stored present reached n a e same)) (barrier.greyed a m))
      (λ parent child a c pat cat is protected black. ⊎_elim
      (λ was. inl was)
      (λ (same, m). inr (child_marked phase parent child a c pat cat protected black same m))
      (cases parent child a pat is protected))
