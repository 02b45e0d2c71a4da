-- What the heap answers for the words of values, and for their fields.
use Rattle.std.proofs.Common.{◌≡◌, ◌≢◌, ◌⊎◌, ℕ, ◌+◌, ◌*◌, ◌%◌, nat_lt, cond, List, length, get_or, false, refl, ap, sym, ◌∙◌, arith, Option, None, Some, Result, Ok, Err, ⊎_elim, inl, inr}
use Rattle.std.specs.Prelude.{slice_get}
use Rattle.std.specs.Option.{ok_or, unwrap_or}
use Rattle.std.specs.FinMap.{get}
use Rattle.std.proofs.lemmas.Bool.{cases_Bool, cond-true, cond-false}
use Rattle.std.proofs.lemmas.Bool.Decides.{nat_tests}
use Rattle.std.proofs.lemmas.Option.{slice_get_cases, slice_get-get_or}
use Rattle.space_model.specs.declared.command.Operand.{Operand}
use Rattle.space_model.specs.declared.reply.Refusal.{Refusal}
use Rattle.space_model.specs.declared.reply.Refusal.TheVariants.{NotObject, NoField}
use Rattle.space_model.specs.declared.value.Value.{Value}
use Rattle.space_model.specs.declared.value.Value.TheVariants.{Nil, Small, Name}
use Rattle.space_model.specs.RootCommands.{field_value}
use Rattle.space_model.specs.ObjectCommands.{written_field}
use Rattle.space_model.specs.Graph.{item_of}
use Rattle.space_model.specs.Operands.{value_word, operand_value}
use Rattle.space_model.specs.Refusals.{and_then, both}
use Rattle.space_model.specs.Places.{pool_of}
use Rattle.space_model.specs.State.{State}
use Rattle.space_model.proofs.MapLaws.{some_get}
use Rattle.space_model.proofs.StackWords.{slot_address-even, slot_address-some}
use Rattle.space_model.proofs.ValuesHold.{operand_holds}
use Rattle.space_model.proofs.ValuesKept.{IsPresentValue, name_present, placed_present, present_kept}
use Rattle.space_heap.specs.Objects.{is_object, object_of, resolved}
use Rattle.space_engine.specs.Stands.{Holds}
use Rattle.space_model.specs.StoredWords.{stored_word}
use Rattle.space_engine.specs.Views.{View}
use Rattle.space_engine.specs.Words.{word_result, written_words, owner_of_field, field_word}
use Rattle.space_engine.proofs.Resolving.{stored_resolved}
use Rattle.space_engine.proofs.StoredWords.{length-map_from, get_or-map_from}

-- a refused result, and one whose value is present
abbrev pub IsPresentResult : State → Result Value Refusal → Type 0
IsPresentResult s (Ok value) = IsPresentValue s.heap.place value
IsPresentResult s (Err why) = Unit {0}

module _ (v : View) (s : State) (h : Holds v s) where
  present_cases : (operand : Operand) (found : Result Value Refusal) → operand_value s operand ≡ found → IsPresentResult s found
  present_cases operand (Ok value) e = operand_holds s (IsPresentValue s.heap.place) (present_kept s h.sound) operand value e
  present_cases operand (Err why) e = tt

  -- the value of an operand is present
  pub operand_present : (operand : Operand) → IsPresentResult s (operand_value s operand)
  operand_present operand = present_cases operand (operand_value s operand) refl

  -- an address of no name has no object
  nothing_at : (word : ℕ) → ((name : ℕ) → get s.heap.place name ≢ Some word) → is_object v.heap word ≡ false
  nothing_at word none = ⊎_elim
      (λ is. absurd (none (object_of v.heap word).name (h.represents.heap.objects.only word is)))
      (λ f. f)
      (cases_Bool (is_object v.heap word))

  pub nothing_at_zero : is_object v.heap 0 ≡ false
  nothing_at_zero = nothing_at 0 (λ name e.
      let slot = h.sound.layout.placed.at name 0 e in
      let some = slot_address-some slot.page (pool_of s.graph name) slot.slot in
      let is = slot.is in
      omega (arith, is, some))

  pub nothing_at_odd : (number : ℕ) → is_object v.heap (2 * number + 1) ≡ false
  nothing_at_odd number = nothing_at (2 * number + 1) (λ name e.
      let slot = h.sound.layout.placed.at name (2 * number + 1) e in
      let even : (2 * number + 1) % 2 ≡ 0 = ap (λ (n : ℕ). n % 2) slot.is ∙ slot_address-even slot.page (pool_of s.graph name) slot.slot in
      omega (arith, even))

  -- a word that isn't an object's has no fields
  no_owner : (word index : ℕ) → is_object v.heap word ≡ false → owner_of_field v.heap word index ≡ Err NotObject
  no_owner word index none = rw none refl

  -- a field of a name: where there is one, its word is that of its value
  pub record HasField (name address index : ℕ) (value : Value) : Type 0 where
    pub there : slice_get (item_of s.graph name).values index ≡ Some value
    pub owner : owner_of_field v.heap address index ≡ Ok address
    pub word : field_word v.heap address index ≡ Ok (value_word s.heap.place value)

  pub record HasNoField (name address index : ℕ) : Type 0 where
    pub none : slice_get (item_of s.graph name).values index ≡ None
    pub owner : owner_of_field v.heap address index ≡ Err NoField

  module _ (name address index : ℕ) (at : get s.heap.place name ≡ Some address) where
    abbrev values : List Value
    values = (item_of s.graph name).values

    pub field_count : length (object_of v.heap address).fields ≡ length values
    field_count = ap length (h.represents.heap.objects.is name address at).fields
        ∙ length-map_from (stored_word s.heap.place s.heap.left s.collector.stale name) 0 values

    owner_is : owner_of_field v.heap address index ≡ cond (nat_lt index (length values)) (Ok address) (Err NoField)
    owner_is =
        cond-true (is_object v.heap address) _ (Err NotObject) (h.represents.heap.objects.stands name address at)
        ∙ ap (λ n. cond (nat_lt index n) (Ok address) (Err NoField)) field_count

    pub field_cases : ((value : Value) × HasField name address index value) ⊎ HasNoField name address index
    field_cases = ⊎_elim
        (λ here. inl (
          get_or values index Nil,
          let owner : owner_of_field v.heap address index ≡ Ok address =
              owner_is ∙ cond-true (nat_lt index (length values)) (Ok address) (Err NoField) (let lt = here.1 in grind (arith, nat_tests)) in
              record {
                there = slice_get-get_or values index Nil here.1;
                owner = owner;
                word = ap (λ (r : Result ℕ Refusal). and_then r (λ a. Ok (resolved v.heap (get_or (object_of v.heap a).fields index 0)))) owner
                    ∙ ap Ok (
                    ap (resolved v.heap)
                    (ap (λ (fields : List ℕ). get_or fields index 0) (h.represents.heap.objects.is name address at).fields
                    ∙ get_or-map_from (stored_word s.heap.place s.heap.left s.collector.stale name) 0 index values here.1
                    ∙ ap (λ k. stored_word s.heap.place s.heap.left s.collector.stale name k (get_or values index Nil)) (omega arith))
                    ∙ stored_resolved v s h name index (get_or values index Nil) (slice_get-get_or values index Nil here.1)
                    ((present_kept s h.sound).field name index (get_or values index Nil) (placed_present s.heap.place name address at)
                    (slice_get-get_or values index Nil here.1)));
              },
        ))
        (λ past. inr (record {
          none = past.1;
          owner = owner_is ∙ cond-false (nat_lt index (length values)) (Ok address) (Err NoField) (let ge = past.0 in grind (arith, nat_tests));
        }))
        (slice_get_cases values index).1

  -- what is read of a value's field
  read_value : (value : Value) (index : ℕ) → IsPresentValue s.heap.place value →
      field_word v.heap (value_word s.heap.place value) index ≡ word_result s.heap.place (field_value s.graph (Ok value) index)
  read_value Nil index present =
      ap (λ (r : Result ℕ Refusal). and_then r (λ a. Ok (resolved v.heap (get_or (object_of v.heap a).fields index 0)))) (no_owner 0 index nothing_at_zero)
  read_value (Small number) index present =
      ap (λ (r : Result ℕ Refusal). and_then r (λ a. Ok (resolved v.heap (get_or (object_of v.heap a).fields index 0))))
      (no_owner (2 * number + 1) index (nothing_at_odd number))
  read_value (Name name) index present =
      let at = some_get (get s.heap.place name) (name_present s.heap.place name present) in
      let word : value_word s.heap.place (Name name) ≡ at.0 = ap (λ (o : Option ℕ). unwrap_or o 0) at.1 in
      ap (λ a. field_word v.heap a index) word
      ∙ ⊎_elim
      (λ (value, f). f.word ∙ sym (ap (λ (o : Option Value). word_result s.heap.place (ok_or o NoField)) f.there))
      (λ f. ap (λ (r : Result ℕ Refusal). and_then r (λ a. Ok (resolved v.heap (get_or (object_of v.heap a).fields index 0)))) f.owner
      ∙ sym (ap (λ (o : Option Value). word_result s.heap.place (ok_or o NoField)) f.none))
      (field_cases name at.0 index at.1)

  pub read_found : (found : Result Value Refusal) (word index : ℕ) → IsPresentResult s found → Ok word ≡ word_result s.heap.place found →
      field_word v.heap word index ≡ word_result s.heap.place (field_value s.graph found index)
  read_found (Ok value) word index present e =
      ap (λ a. field_word v.heap a index) (ok_same word (value_word s.heap.place value) e) ∙ read_value value index present
    where
      ok_same : (a b : ℕ) → ◌≡◌ {A = Result ℕ Refusal} (Ok a) (Ok b) → a ≡ b
      ok_same a b e = cc
  read_found (Err why) word index present e = absurd (cc)

  -- where a store writes, and what
  write_value : (value new : Value) (index : ℕ) → IsPresentValue s.heap.place value →
      and_then (owner_of_field v.heap (value_word s.heap.place value) index)
      (λ address. Ok (address, value_word s.heap.place new)) ≡ written_words s.heap.place (written_field s.graph (Ok value) index (Ok new))
  write_value Nil new index present =
      ap (λ (r : Result ℕ Refusal). and_then r (λ address. Ok (address, value_word s.heap.place new))) (no_owner 0 index nothing_at_zero)
  write_value (Small number) new index present =
      ap (λ (r : Result ℕ Refusal). and_then r (λ address. Ok (address, value_word s.heap.place new))) (no_owner (2 * number + 1) index (nothing_at_odd number))
  write_value (Name name) new index present =
      let at = some_get (get s.heap.place name) (name_present s.heap.place name present) in
      let word : value_word s.heap.place (Name name) ≡ at.0 = ap (λ (o : Option ℕ). unwrap_or o 0) at.1 in
      ap (λ a. and_then (owner_of_field v.heap a index) (λ address. Ok (address, value_word s.heap.place new))) word
      ∙ ⊎_elim
      (λ (value, f).
      ap (λ (r : Result ℕ Refusal). and_then r (λ address. Ok (address, value_word s.heap.place new))) f.owner
      ∙ ap (λ a. Ok (a, value_word s.heap.place new)) (sym word)
      ∙ sym (ap (λ (o : Option Value). written_words s.heap.place (and_then (ok_or o NoField) (λ old. Ok (name, new)))) f.there))
      (λ f.
      ap (λ (r : Result ℕ Refusal). and_then r (λ address. Ok (address, value_word s.heap.place new))) f.owner
      ∙ sym (ap (λ (o : Option Value). written_words s.heap.place (and_then (ok_or o NoField) (λ old. Ok (name, new)))) f.none))
      (field_cases name at.0 index at.1)

  pub write_found : (object value : Result Value Refusal) (address word index : ℕ) → IsPresentResult s object →
      Ok (address, word) ≡ both (word_result s.heap.place object) (word_result s.heap.place value) →
      and_then (owner_of_field v.heap address index) (λ a. Ok (a, word)) ≡ written_words s.heap.place (written_field s.graph object index value)
  write_found (Ok owner) (Ok new) address word index present e =
      let pair : (address, word) ≡ (value_word s.heap.place owner, value_word s.heap.place new) = cc in
      ap (λ (p : ℕ × ℕ). and_then (owner_of_field v.heap p.0 index) (λ a. Ok (a, p.1))) pair ∙ write_value owner new index present
  write_found (Ok owner) (Err why) address word index present e = absurd (cc)
  write_found (Err why) (Ok new) address word index present e = absurd (cc)
  write_found (Err why) (Err other) address word index present e = absurd (cc)

  pub write_lost : (object value : Result Value Refusal) (why : Refusal) (index : ℕ) →
      Err why ≡ both (word_result s.heap.place object) (word_result s.heap.place value) →
      Err why ≡ written_words s.heap.place (written_field s.graph object index value)
  write_lost (Ok owner) (Ok new) why index e = absurd (cc)
  write_lost (Ok owner) (Err other) why index e = e
  write_lost (Err other) (Ok new) why index e = e
  write_lost (Err other) (Err another) why index e = e
