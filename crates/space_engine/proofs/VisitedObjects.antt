-- One visit: the object at the address has the words of its fields resolved, and no field of its name is stale in the state any more.
use Rattle.std.proofs.Common.{◌≡◌, ◌≢◌, ℕ, suc, ◌+◌, ◌≤◌, Bool, true, false, true≢false, not, ◌&&◌, cond, List, [], ◌∷◌, map, nat_eq, nat_lt, refl, sym, ap, ◌∙◌, subst, arith, Some, ⊎_elim}
use Rattle.std.specs.Prelude.{slice_get}
use Rattle.std.specs.FinMap.{get}
use Rattle.std.proofs.lemmas.Bool.{cases_Bool, cases_eq, cond-false}
use Rattle.std.proofs.lemmas.Bool.Decides.{nat_tests}
use Rattle.space_model.specs.declared.phase.Phase.TheVariants.{Marking, Fixing}
use Rattle.space_model.specs.declared.value.Value.{Value}
use Rattle.space_model.specs.Compaction.{without_pairs, visited as state_visited, IsNextVisit, Visits1}
use Rattle.space_model.specs.Graph.{item_of}
use Rattle.space_model.specs.Operands.{value_word}
use Rattle.space_model.specs.State.{State}
use Rattle.space_model.specs.StoredWords.{is_stale, stored_word, map_from, stored_words}
use Rattle.space_model.proofs.CompactionKept.{stale-without_pairs, Sound-visited}
use Rattle.space_model.proofs.StoredWordLaws.{map_from_same}
use Rattle.space_model.proofs.ValuesKept.{placed_present, present_kept}
use Rattle.space_heap.specs.Slots.{ObjectView}
use Rattle.space_heap.specs.HeapView.{HeapView}
use Rattle.space_heap.specs.Objects.{is_object, object_of, resolved, with_object}
use Rattle.space_heap.specs.Walks.{IsNextObject}
use Rattle.space_heap.proofs.CursorLaws.{is_occupied-at_cursor, is_object-at_cursor, object_of-at_cursor, resolved-at_cursor, is_moved-at_cursor}
use Rattle.space_heap.proofs.FreeLaws.{is_moved-with_object}
use Rattle.space_heap.proofs.ObjectLaws.{occupied_from_object, is_occupied-with_object, object_of-with_object_same, object_of-with_object_other, stays, is_object-with_object, resolved-with_object, pool_at-with_object, count-with_object, rest-with_object}
use Rattle.space_compact.specs.Visits.{fixed_object, visited}
use Rattle.space_engine.specs.Stands.{IsObjectOf, Holds}
use Rattle.space_engine.specs.Views.{View, with_heap}
use Rattle.space_engine.proofs.CollectorSteps.{without_words, SameButWords, represents_then}
use Rattle.space_engine.proofs.Outcomes.{some_same}
use Rattle.space_engine.proofs.Resolving.{stored_resolved}

-- the heap after a visit

module _ (w : HeapView) (a : ℕ) where
  abbrev fixed : HeapView
  fixed = with_object w a (fixed_object w a)

  -- nothing changed but words and the cursor
  visited_same : SameButWords w (visited w a)
  unfolding visited
  visited_same =
      let o : ObjectView = fixed_object w a in
      let others = rest-with_object w a o in
      record {
        standing = λ b. is_occupied-at_cursor fixed (a + 1) b ∙ is_occupied-with_object w a o b;
        present = λ b. is_object-at_cursor fixed (a + 1) b ∙ is_object-with_object w a o b refl;
        objects = λ b. ap without_words (object_of-at_cursor fixed (a + 1) b) ∙ stays without_words w a o b refl;
        away = λ b. is_moved-at_cursor fixed (a + 1) b ∙ is_moved-with_object w a o b;
        leads = λ word. resolved-at_cursor fixed (a + 1) word ∙ resolved-with_object w a o word;
        pools = λ page. pool_at-with_object w a o page;
        count = count-with_object w a o;
        limit = others.limit;
        unswept = others.unswept;
        grey = others.grey;
        counters = others.counters;
      }

  phase_same : (visited w a).phase ≡ w.phase
  unfolding visited
  phase_same = (rest-with_object w a (fixed_object w a)).phase

  cursor_after : (visited w a).cursor ≡ a + 1
  unfolding visited
  cursor_after = refl

  visited_here : is_object w a ≡ true → object_of (visited w a) a ≡ fixed_object w a
  unfolding visited
  visited_here there =
      object_of-at_cursor fixed (a + 1) a ∙ object_of-with_object_same w a (fixed_object w a) (occupied_from_object w a there)

  visited_other : (b : ℕ) → b ≢ a → object_of (visited w a) b ≡ object_of w b
  unfolding visited
  visited_other b other = object_of-at_cursor fixed (a + 1) b ∙ object_of-with_object_other w a (fixed_object w a) b other

-- stale fields

gone_with : (a b : Bool) → b ≡ true → (a && not b) ≡ false
gone_with true b e = ap not e
gone_with false b e = refl

stays_with : (a b : Bool) → b ≡ false → (a && not b) ≡ a
stays_with true b e = ap not e
stays_with false b e = refl

-- no field of the name is stale
none_stale : (stale : List (ℕ × ℕ)) (name i : ℕ) → is_stale (without_pairs stale name) name i ≡ false
none_stale stale name i = stale-without_pairs stale name name i ∙ gone_with (is_stale stale name i) (nat_eq name name) (grind (arith, nat_tests))

-- and those of others are where they were
others_stale : (stale : List (ℕ × ℕ)) (name n i : ℕ) → n ≢ name → is_stale (without_pairs stale name) n i ≡ is_stale stale n i
others_stale stale name n i other =
    stale-without_pairs stale name n i ∙ stays_with (is_stale stale n i) (nat_eq n name) (grind (arith, nat_tests, other))

-- the words of values, each changed
map_words : (r : ℕ → ℕ) (f g : ℕ → Value → ℕ) (index : ℕ) (values : List Value) →
    ((i : ℕ) (value : Value) → slice_get values i ≡ Some value → r (f (index + i) value) ≡ g (index + i) value) →
    map r (map_from f index values) ≡ map_from g index values
map_words r f g index [] each = refl
map_words r f g index (value ∷ values) each =
    let first : r (f index value) ≡ g index value = subst (λ k. r (f k value) ≡ g k value) (omega arith) (each 0 value refl) in
    let others = map_words r f g (index + 1) values (λ i v e. subst (λ k. r (f k v) ≡ g k v) (omega arith) (each (suc i) v e)) in
    λ j. first j ∷ others j

-- the visit of the next object is one of the next name

module _ (v : View) (s : State) (h : Holds v s) (a : ℕ) (next : IsNextObject v.heap v.heap.cursor a) where
  abbrev pub visited_name : ℕ
  visited_name = (object_of v.heap a).name

  abbrev pub state_after : State
  state_after = state_visited s visited_name a

  abbrev stale' : List (ℕ × ℕ)
  stale' = without_pairs s.collector.stale visited_name

  stands_there : get s.heap.place visited_name ≡ Some a
  stands_there = h.represents.heap.objects.only a next.is

  next_visit : IsNextVisit s visited_name a
  next_visit = record {
    at = stands_there;
    not_below = subst (λ c. c ≤ a) h.represents.heap.progress.until next.from_there;
    least = λ other b at from. ⊎_elim
        (λ (lower : nat_lt b a ≡ true).
        let until = h.represents.heap.progress.until in
        absurd (true≢false (
        sym (h.represents.heap.objects.stands other b at)
        ∙ next.before b (omega (arith, until, from)) (grind (arith, nat_tests, lower)))))
        (λ (above : nat_lt b a ≡ false). grind (arith, nat_tests, above))
        (cases_Bool (nat_lt b a));
  }

  pub one_visit : Visits1 s state_after
  one_visit = record { name = visited_name; address = a; next = next_visit; after = refl }

  -- the words of its fields are those of its values
  words_here : map (resolved v.heap) (object_of v.heap a).fields ≡
      stored_words s.heap.place s.heap.left stale' visited_name (item_of s.graph visited_name).values
  words_here =
      let f : ℕ → Value → ℕ = stored_word s.heap.place s.heap.left s.collector.stale visited_name in
      let g : ℕ → Value → ℕ = stored_word s.heap.place s.heap.left stale' visited_name in
      ap (map (resolved v.heap)) (h.represents.heap.objects.is visited_name a stands_there).fields
      ∙ map_words (resolved v.heap) f g 0 (item_of s.graph visited_name).values
      (λ i value e.
      let i_is : 0 + i ≡ i = omega arith in
      subst (λ k. resolved v.heap (f k value) ≡ g k value) (sym i_is)
      (stored_resolved v s h visited_name i value e
      ((present_kept s h.sound).field visited_name i value (placed_present s.heap.place visited_name a stands_there) e)
      ∙ sym (cond-false (is_stale stale' visited_name i) (value_word s.heap.left value) (value_word s.heap.place value)
      (none_stale s.collector.stale visited_name i))))

  -- the object that was visited
  object_here : IsObjectOf s.heap.place s.heap.left stale' visited_name (item_of s.graph visited_name) (object_of (visited v.heap a) a)
  object_here =
      let was = h.represents.heap.objects.is visited_name a stands_there in
      subst (IsObjectOf s.heap.place s.heap.left stale' visited_name (item_of s.graph visited_name))
      (sym (visited_here v.heap a next.is))
      (record { named = was.named; guard = was.guard; style = was.style; fields = words_here })

  -- any other
  object_there : (n b : ℕ) → n ≢ visited_name → get s.heap.place n ≡ Some b →
      IsObjectOf s.heap.place s.heap.left stale' n (item_of s.graph n) (object_of v.heap b)
  object_there n b other e =
      let was = h.represents.heap.objects.is n b e in
      record {
        named = was.named;
        guard = was.guard;
        style = was.style;
        fields = was.fields
            ∙ map_from_same (stored_word s.heap.place s.heap.left s.collector.stale n) (stored_word s.heap.place s.heap.left stale' n) 0
            (item_of s.graph n).values
            (λ i old _. ap (λ c. cond c (value_word s.heap.left old) (value_word s.heap.place old))
            (sym (others_stale s.collector.stale visited_name n (0 + i) other)));
      }

  object_is : (n b : ℕ) → get s.heap.place n ≡ Some b →
      IsObjectOf s.heap.place s.heap.left stale' n (item_of s.graph n) (object_of (visited v.heap a) b)
  object_is n b e = ⊎_elim
      (λ same.
      let name_is : n ≡ visited_name = h.sound.layout.placed.once n visited_name a (e ∙ ap Some same) stands_there in
      subst (λ n. IsObjectOf s.heap.place s.heap.left stale' n (item_of s.graph n) (object_of (visited v.heap a) b)) (sym name_is)
      (subst (λ b. IsObjectOf s.heap.place s.heap.left stale' visited_name (item_of s.graph visited_name) (object_of (visited v.heap a) b)) (sym same)
      object_here))
      (λ other.
      let apart : n ≢ visited_name = λ same. other (some_same b a (sym e ∙ ap (get s.heap.place) same ∙ stands_there)) in
      subst (IsObjectOf s.heap.place s.heap.left stale' n (item_of s.graph n)) (sym (visited_other v.heap a b other)) (object_there n b apart e))
      (cases_eq b a)

  module _ (fixing : s.collector.phase ≡ Fixing) where
    not_marking : s.collector.phase ≢ Marking
    not_marking e = let f : Fixing ≡ Marking = sym fixing ∙ e in cc

    pub visit_held : Holds (with_heap v (visited v.heap a)) state_after
    visit_held = record {
      represents = represents_then v s h.represents (visited v.heap a) (visited_same v.heap a) s.collector.phase (a + 1) stale'
          (phase_same v.heap a ∙ h.represents.heap.progress.at) (cursor_after v.heap a) not_marking not_marking object_is;
      sound = Sound-visited s state_after fixing one_visit h.sound;
    }
