-- The line of an object in a dump: from the heap and from a state that it stands for it is the same.
use Rattle.std.proofs.Common.{◌≡◌, ℕ, suc, ◌+◌, ◌<◌, ◌^◌, true, List, [], ◌∷◌, ◌++◌, length, map, nat_eq, refl, sym, ap, ◌∙◌, subst, arith, Option, Some}
use Rattle.std.specs.Prelude.{slice_get, unwrap_or, is_some}
use Rattle.std.specs.List.{filter, flat_map}
use Rattle.std.specs.Set.{is_member}
use Rattle.std.specs.FinMap.{get}
use Rattle.std.proofs.lemmas.Bool.{cond-true, cond-false, or_left, or_right, eq-eqb}
use Rattle.std.proofs.lemmas.Bool.Decides.{nat_tests}
use Rattle.std.proofs.lemmas.List.{map-append}
use Rattle.space_model.specs.declared.value.Value.{Value}
use Rattle.space_model.specs.declared.value.Value.TheVariants.{Nil, Small, Name}
use Rattle.space_model.specs.Ages.{is_protected_guard}
use Rattle.space_model.specs.Dumps.{dump_line, dump_lines, ArePresentNames}
use Rattle.space_model.specs.Graph.{item_of, names_of, children}
use Rattle.space_model.specs.Layout.{pool_for, slot_bytes}
use Rattle.space_model.specs.Maps.{address_in}
use Rattle.space_model.specs.Operands.{value_word}
use Rattle.space_model.specs.Outputs.{Listed}
use Rattle.space_model.specs.Spelling.{Piece, IsSpelled}
use Rattle.space_model.specs.State.{State, is_present}
use Rattle.space_model.specs.StoredWords.{stored_word, map_from}
use Rattle.space_model.specs.Texts.{AreSpelled, dump_pieces, reference_pieces}
use Rattle.space_model.proofs.MapLaws.{some_get}
use Rattle.space_model.proofs.RisingNames.{IsRising-from_addresses}
use Rattle.space_model.proofs.ValuesKept.{IsPresentValue, name_present, placed_present, present_kept, item_sound}
use Rattle.space_dump.specs.HeapLines.{line_at, references_in}
use Rattle.space_heap.specs.Objects.{is_object, object_of, resolved}
use Rattle.space_collector.specs.GoneNames.{name_at}
use Rattle.space_engine.specs.HeapDumps.{lines_at, object_addresses}
use Rattle.space_engine.specs.Stands.{Holds}
use Rattle.space_engine.specs.Turns.{CanAnswer}
use Rattle.space_engine.specs.Views.{View}
use Rattle.space_engine.proofs.FieldWords.{nothing_at_zero, nothing_at_odd, field_count}
use Rattle.space_engine.proofs.GenerationNames.{is_old-named}
use Rattle.space_engine.proofs.ObjectLists.{member_object, objects_rising}
use Rattle.space_engine.proofs.Reaching.{member_map, member_unmap}
use Rattle.space_engine.proofs.Resolving.{stored_resolved}

small_slot : (fields : ℕ) → slot_bytes (pool_for fields) < 2 ^ 64
unfolding slot_bytes pool_for
small_slot fields = grind (arith, nat_tests)

-- addresses need no bound
references_spelled : (addresses : List ℕ) (rest : List Piece) → IsSpelled rest → IsSpelled (reference_pieces addresses rest)
references_spelled [] rest spelled = spelled
references_spelled (address ∷ []) rest spelled = spelled
references_spelled (address ∷ next ∷ others) rest spelled = references_spelled (next ∷ others) rest spelled

module _ (v : View) (s : State) (h : Holds v s) where
  -- the word of a value, where it names an object, is the place of the value's name
  value_reference : (value : Value) (rest : List ℕ) → IsPresentValue s.heap.place value →
      filter (is_object v.heap) (value_word s.heap.place value ∷ rest) ≡ map (address_in s.heap.place) (names_of value) ++ filter (is_object v.heap) rest
  value_reference Nil rest present = cond-false (is_object v.heap 0) _ _ (nothing_at_zero v s h)
  value_reference (Small number) rest present = cond-false (is_object v.heap _) _ _ (nothing_at_odd v s h number)
  value_reference (Name name) rest present =
      let at = some_get (get s.heap.place name) (name_present s.heap.place name present) in
      let word : address_in s.heap.place name ≡ at.0 = ap (λ (o : Option ℕ). unwrap_or o 0) at.1 in
      cond-true (is_object v.heap (address_in s.heap.place name)) _ _ (ap (is_object v.heap) word ∙ h.represents.heap.objects.stands name at.0 at.1)

  module _ (name : ℕ) where
    -- the stored word of a field, from this number on
    abbrev word_of : ℕ → Value → ℕ
    word_of index value = stored_word s.heap.place s.heap.left s.collector.stale name index value

    -- it is resolved to the word of its value
    record IsLed (index : ℕ) (value : Value) : Type 0 where
      led : resolved v.heap (word_of index value) ≡ value_word s.heap.place value
      present : IsPresentValue s.heap.place value

    references_from : (index : ℕ) (values : List Value) → ((i : ℕ) (value : Value) → slice_get values i ≡ Some value → IsLed (index + i) value) →
        references_in v.heap (map_from word_of index values) ≡ map (address_in s.heap.place) (flat_map names_of values)
    references_from index [] led = refl
    references_from index (value ∷ values) led =
        let here : index + 0 ≡ index = omega arith in
        let first : IsLed index value = subst (λ k. IsLed k value) here (led 0 value refl) in
        let others : List ℕ = map (resolved v.heap) (map_from word_of (index + 1) values) in
        ap (λ word. filter (is_object v.heap) (word ∷ others)) first.led
        ∙ value_reference value others first.present
        ∙ ap (λ found. map (address_in s.heap.place) (names_of value) ++ found)
        (references_from (index + 1) values
        (λ i next at. let e : index + suc i ≡ index + 1 + i = omega arith in subst (λ k. IsLed k next) e (led (suc i) next at)))
        ∙ sym (map-append (address_in s.heap.place) (names_of value) (flat_map names_of values))

    -- the references of an object are the places of its name's children
    references_same : (address : ℕ) → get s.heap.place name ≡ Some address →
        references_in v.heap (object_of v.heap address).fields ≡ map (address_in s.heap.place) (children s.graph name)
    unfolding children
    references_same address at =
        ap (references_in v.heap) (h.represents.heap.objects.is name address at).fields
        ∙ references_from 0 (item_of s.graph name).values (λ i value there.
        let present = (present_kept s h.sound).field name i value (placed_present s.heap.place name address at) there in
        let e : 0 + i ≡ i = omega arith in
        subst (λ k. IsLed k value) (sym e) (record { led = stored_resolved v s h name i value there present; present = present }))

  pub line_same : (a : ℕ) → is_object v.heap a ≡ true → line_at v.heap a ≡ dump_line s (name_at v.heap a)
  line_same a is =
      let name : ℕ = name_at v.heap a in
      let at = h.represents.heap.objects.only a is in
      let object = h.represents.heap.objects.is name a at in
      let long = field_count v s h name a 0 at in
      let place : a ≡ address_in s.heap.place name = ap (λ (o : Option ℕ). unwrap_or o 0) (sym at) in
      let old = is_old-named s.graph s.heap.place s.collector.outlived v.heap h.represents.generations.ages name a at object.guard in
      let references = references_same name a at in
      λ i. record {
        address = place i;
        fields = long i;
        old = old i;
        style = object.style i;
        wb_protected = is_protected_guard (object.guard i);
        name = name;
        references = references i;
        slot_size = slot_bytes (pool_for (long i));
      }

  -- each address of a list names an object
  abbrev pub AreObjects : List ℕ → Type 0
  AreObjects xs = (a : ℕ) → is_member nat_eq xs a ≡ true → is_object v.heap a ≡ true

  first_object : (x : ℕ) (xs : List ℕ) → AreObjects (x ∷ xs) → is_object v.heap x ≡ true
  first_object x xs are = are x (or_left _ _ (eq-eqb x x refl))

  other_objects : (x : ℕ) (xs : List ℕ) → AreObjects (x ∷ xs) → AreObjects xs
  other_objects x xs are = λ a m. are a (or_right (nat_eq a x) _ m)

  pub lines_same : (xs : List ℕ) → AreObjects xs → lines_at v.heap xs ≡ dump_lines s (map (name_at v.heap) xs)
  lines_same [] are = refl
  lines_same (x ∷ xs) are =
      let first = line_same x (first_object x xs are) in
      let others = lines_same xs (other_objects x xs are) in
      λ i. Listed (first i) ∷ others i

  -- each name leads back to the address
  places_of : (xs : List ℕ) → AreObjects xs → map (address_in s.heap.place) (map (name_at v.heap) xs) ≡ xs
  places_of [] are = refl
  places_of (x ∷ xs) are =
      let first = ap (λ (o : Option ℕ). unwrap_or o 0) (h.represents.heap.objects.only x (first_object x xs are)) in
      let others = places_of xs (other_objects x xs are) in
      λ i. first i ∷ others i

  pub listed_objects : AreObjects (object_addresses v.heap)
  listed_objects a m = sym (member_object v.heap a) ∙ m

  -- the names of all objects are the present names
  pub names_present : ArePresentNames s (map (name_at v.heap) (object_addresses v.heap))
  names_present = record {
    are = λ n. (
      (λ m.
          let u = member_unmap (name_at v.heap) (object_addresses v.heap) n m in
          ap (is_present s) u.2 ∙ ap is_some (h.represents.heap.objects.only u.0 (listed_objects u.0 u.1))),
      (λ there.
          let at = some_get (get s.heap.place n) there in
          let m = member_map (name_at v.heap) (object_addresses v.heap) at.0 (member_object v.heap at.0 ∙ h.represents.heap.objects.stands n at.0 at.1) in
          subst (λ k. is_member nat_eq (map (name_at v.heap) (object_addresses v.heap)) k ≡ true) (h.represents.heap.objects.is n at.0 at.1).named m),
    );
    rising = IsRising-from_addresses s.heap.place (map (name_at v.heap) (object_addresses v.heap)) (object_addresses v.heap)
        (places_of (object_addresses v.heap) listed_objects) (objects_rising v.heap);
  }

  module _ (able : CanAnswer v.heap) where
    line_spelled : (a : ℕ) → is_object v.heap a ≡ true → IsSpelled (dump_pieces (line_at v.heap a))
    line_spelled a is =
        let name : ℕ = name_at v.heap a in
        let at = h.represents.heap.objects.only a is in
        let long = field_count v s h name a 0 at in
        let few = (item_sound s.graph name h.sound.items).0 in
        let allocated = (h.sound.layout.placed.allocated name a at).1 in
        let born = h.represents.heap.counted.allocated in
        let low = able.born in
        let bytes = small_slot (length (object_of v.heap a).fields) in
        (omega arith, (omega arith, references_spelled (references_in v.heap (object_of v.heap a).fields) _ (bytes, tt)))

    -- each line can be written
    pub lines_spelled : (xs : List ℕ) → AreObjects xs → AreSpelled (lines_at v.heap xs)
    lines_spelled [] are = tt
    lines_spelled (x ∷ xs) are = (line_spelled x (first_object x xs are), lines_spelled xs (other_objects x xs are))
