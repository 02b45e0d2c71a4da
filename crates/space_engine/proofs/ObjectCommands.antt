-- What the commands that write and compare objects reply, and the states after them.
use Rattle.std.proofs.Common.{◌≡◌, ℕ, ◌+◌, ◌*◌, ◌<◌, Bool, true, false, not, if◌then◌else◌, length, refl, ap, sym, ◌∙◌, subst, Option, None, Some, Result, Ok, Err}
use Rattle.std.specs.Option.{ok_or, unwrap_or}
use Rattle.std.specs.FinMap.{get}
use Rattle.std.proofs.lemmas.Bool.{cond-true, cond-false}
use Rattle.space_model.specs.declared.command.Command.TheVariants.{Store, RawStore, Same, Unprotect}
use Rattle.space_model.specs.declared.command.Input.{Input}
use Rattle.space_model.specs.declared.command.Operand.{Operand}
use Rattle.space_model.specs.declared.reply.Refusal.{Refusal}
use Rattle.space_model.specs.declared.reply.Refusal.TheVariants.{NotObject, Protected}
use Rattle.space_model.specs.declared.reply.Reply.{Reply}
use Rattle.space_model.specs.declared.reply.Reply.TheVariants.{Done, Refused}
use Rattle.space_model.specs.declared.value.Value.{Value}
use Rattle.space_model.specs.declared.value.Value.TheVariants.{Nil, Small, Name}
use Rattle.space_model.specs.Ages.{is_protected_guard, is_protected}
use Rattle.space_model.specs.ObjectCommands.{written_field, unguarded, raw_written_field, same_reply}
use Rattle.space_model.specs.CommandTexts.{IsWritableInput}
use Rattle.space_model.specs.Moments.{noted}
use Rattle.space_model.specs.Operands.{operand_value, input_value, value_word, object_in}
use Rattle.space_model.specs.Pieces.{field_written, unprotected}
use Rattle.space_model.specs.Refusals.{and_then, both}
use Rattle.space_model.specs.State.{State}
use Rattle.space_model.proofs.MapLaws.{some_get}
use Rattle.space_model.proofs.ValuesHold.{named_holds, write_holds}
use Rattle.space_model.proofs.ValuesKept.{IsPresentValue, IsReachedValue, name_present, present_kept, reached_kept}
use Rattle.space_heap.specs.Objects.{is_object, object_of}
use Rattle.space_heap.specs.Generations.{is_protected_at}
use Rattle.space_engine.specs.Stands.{Holds}
use Rattle.space_engine.specs.Steps.{Answers}
use Rattle.space_engine.specs.Views.{View, with_field, with_raw_field, with_unprotected}
use Rattle.space_engine.specs.Words.{word_result, written_words, named_address}
use Rattle.space_engine.proofs.FieldWords.{IsPresentResult, nothing_at_zero, nothing_at_odd, operand_present}
use Rattle.space_engine.proofs.GenerationsUnprotected.{after_unprotected}
use Rattle.space_engine.proofs.Outcomes.{ok_same}
use Rattle.space_engine.proofs.StoredFields.{after_raw_store, after_store}
use Rattle.space_engine.proofs.WordResults.{refused_value, refused_write, refused_name}

module _ (v : View) (s : State) (h : Holds v s) where
  -- `store`

  -- the name whose field is written stands where the word says
  written_at : (object : Operand) (index : ℕ) (input : Input) (name : ℕ) (value : Value) → IsWritableInput input →
      written_field s.graph (operand_value s object) index (input_value s input) ≡ Ok (name, value) →
      get s.heap.place name ≡ Some (value_word s.heap.place (Name name))
  written_at object index input name value i e =
      let at = some_get (get s.heap.place name)
      (name_present s.heap.place name (write_holds s (IsPresentValue s.heap.place) (present_kept s h.sound) object index input (name, value) i e).0) in
      at.1 ∙ ap (λ (o : Option ℕ). Some (unwrap_or o 0)) (sym at.1)

  -- the value that is written is present
  written_present : (object : Operand) (index : ℕ) (input : Input) (name : ℕ) (value : Value) → IsWritableInput input →
      written_field s.graph (operand_value s object) index (input_value s input) ≡ Ok (name, value) → IsPresentValue s.heap.place value
  written_present object index input name value i e =
      (write_holds s (IsPresentValue s.heap.place) (present_kept s h.sound) object index input (name, value) i e).1

  -- and reached
  written_reached : (object : Operand) (index : ℕ) (input : Input) (name : ℕ) (value : Value) → IsWritableInput input →
      written_field s.graph (operand_value s object) index (input_value s input) ≡ Ok (name, value) → IsReachedValue s value
  written_reached object index input name value i e = (write_holds s (IsReachedValue s) (reached_kept s) object index input (name, value) i e).1

  store_value : (object : Operand) (index : ℕ) (input : Input) (address word : ℕ) (found : Result (ℕ × Value) Refusal) → IsWritableInput input →
      index < length (object_of v.heap address).fields → written_field s.graph (operand_value s object) index (input_value s input) ≡ found →
      Ok (address, word) ≡ written_words s.heap.place found → Answers s (with_field v address index word) (Store object index input) Done
  store_value object index input address word (Ok (name, value)) i field e w =
      let pair : (address, word) ≡ (value_word s.heap.place (Name name), value_word s.heap.place value) = cc in
      let here : index < length (object_of v.heap (value_word s.heap.place (Name name))).fields =
      subst (λ (p : ℕ × ℕ). index < length (object_of v.heap p.0).fields) pair field in
      subst (λ (p : ℕ × ℕ). Answers s (with_field v p.0 index p.1) (Store object index input) Done) (sym pair) (record {
        state = noted (field_written s name index value);
        represents = after_store v s h name (value_word s.heap.place (Name name)) index value (written_at object index input name value i e)
            (written_present object index input name value i e) (written_reached object index input name value i e) here;
        replies = rw e (refl, refl);
      })
  store_value object index input address word (Err why) i field e w = absurd (cc)

  pub store_done : (object : Operand) (index : ℕ) (input : Input) (address word : ℕ) → IsWritableInput input →
      index < length (object_of v.heap address).fields →
      Ok (address, word) ≡ written_words s.heap.place (written_field s.graph (operand_value s object) index (input_value s input)) →
      Answers s (with_field v address index word) (Store object index input) Done
  store_done object index input address word i field w =
      store_value object index input address word (written_field s.graph (operand_value s object) index (input_value s input)) i field refl w

  pub store_refused : (object : Operand) (index : ℕ) (input : Input) (why : Refusal) →
      Err why ≡ written_words s.heap.place (written_field s.graph (operand_value s object) index (input_value s input)) →
      Answers s v (Store object index input) (Refused why)
  store_refused object index input why e = record {
    state = s;
    represents = h.represents;
    replies = rw (refused_write s.heap.place (written_field s.graph (operand_value s object) index (input_value s input)) why e) (record {
      reply_is = refl;
      unchanged = refl;
    });
  }

  -- `rawstore`

  unguarded_ok : (found : Result (ℕ × Value) Refusal) (written : ℕ × Value) → and_then found (unguarded s.graph) ≡ Ok written → found ≡ Ok written
  unguarded_ok (Ok other) written e = by_guard (is_protected s.graph other.0) e
    where
      by_guard : (guarded : Bool) → ◌≡◌ {A = Result (ℕ × Value) Refusal} (if guarded then Err Protected else Ok other) (Ok written) →
          ◌≡◌ {A = Result (ℕ × Value) Refusal} (Ok other) (Ok written)
      by_guard true e = absurd (cc)
      by_guard false e = e
  unguarded_ok (Err why) written e = absurd (cc)

  raw_store_value : (object : Operand) (index : ℕ) (input : Input) (address word : ℕ) (found : Result (ℕ × Value) Refusal) → IsWritableInput input →
      is_protected_at v.heap address ≡ false → raw_written_field s.graph (operand_value s object) index (input_value s input) ≡ found →
      Ok (address, word) ≡ written_words s.heap.place found → Answers s (with_raw_field v address index word) (RawStore object index input) Done
  raw_store_value object index input address word (Ok (name, value)) i free e w =
      let pair : (address, word) ≡ (value_word s.heap.place (Name name), value_word s.heap.place value) = cc in
      let here : is_protected_at v.heap (value_word s.heap.place (Name name)) ≡ false =
      subst (λ (p : ℕ × ℕ). is_protected_at v.heap p.0 ≡ false) pair free in
      let written = unguarded_ok (written_field s.graph (operand_value s object) index (input_value s input)) (name, value) e in
      subst (λ (p : ℕ × ℕ). Answers s (with_raw_field v p.0 index p.1) (RawStore object index input) Done) (sym pair) (record {
        state = noted (field_written s name index value);
        represents = after_raw_store v s h name (value_word s.heap.place (Name name)) index value
            (written_at object index input name value i written) here;
        replies = rw e (refl, refl);
      })
  raw_store_value object index input address word (Err why) i free e w = absurd (cc)

  pub raw_store_done : (object : Operand) (index : ℕ) (input : Input) (address word : ℕ) → IsWritableInput input →
      is_protected_at v.heap address ≡ false →
      Ok (address, word) ≡ written_words s.heap.place (raw_written_field s.graph (operand_value s object) index (input_value s input)) →
      Answers s (with_raw_field v address index word) (RawStore object index input) Done
  raw_store_done object index input address word i free w =
      raw_store_value object index input address word (raw_written_field s.graph (operand_value s object) index (input_value s input)) i free refl w

  pub raw_store_refused : (object : Operand) (index : ℕ) (input : Input) (why : Refusal) →
      Err why ≡ written_words s.heap.place (raw_written_field s.graph (operand_value s object) index (input_value s input)) →
      Answers s v (RawStore object index input) (Refused why)
  raw_store_refused object index input why e = record {
    state = s;
    represents = h.represents;
    replies = rw (refused_write s.heap.place (raw_written_field s.graph (operand_value s object) index (input_value s input)) why e) (record {
      reply_is = refl;
      unchanged = refl;
    });
  }

  -- where a raw store writes: as a store, where the write barrier doesn't protect the object
  raw_found : (object : Operand) (index : ℕ) (input : Input) (address word : ℕ) (found : Result (ℕ × Value) Refusal) (free : Bool) → IsWritableInput input →
      written_field s.graph (operand_value s object) index (input_value s input) ≡ found → Ok (address, word) ≡ written_words s.heap.place found →
      is_protected_at v.heap address ≡ not free →
      (if free then Ok (address, word) else Err Protected) ≡ written_words s.heap.place (and_then found (unguarded s.graph))
  raw_found object index input address word (Ok (name, value)) free i e w guard =
      let pair : (address, word) ≡ (value_word s.heap.place (Name name), value_word s.heap.place value) = cc in
      let at = written_at object index input name value i e in
      let same : is_protected s.graph name ≡ not free =
      ap is_protected_guard (sym (h.represents.heap.objects.is name (value_word s.heap.place (Name name)) at).guard)
      ∙ ap (λ (p : ℕ × ℕ). is_protected_at v.heap p.0) (sym pair) ∙ guard in
      by_guard free same pair
    where
      by_guard : (free : Bool) → is_protected s.graph name ≡ not free →
          ◌≡◌ {A = ℕ × ℕ} (address, word) (value_word s.heap.place (Name name), value_word s.heap.place value) →
          (if free then Ok (address, word) else Err Protected) ≡ written_words s.heap.place (unguarded s.graph (name, value))
      by_guard true same pair =
          ap Ok pair ∙ sym (ap (written_words s.heap.place) (cond-false (is_protected s.graph name) (Err Protected) (Ok (name, value)) same))
      by_guard false same pair =
          sym (ap (written_words s.heap.place) (cond-true (is_protected s.graph name) (Err Protected) (Ok (name, value)) same))
  raw_found object index input address word (Err why) free i e w guard = absurd (cc)

  pub raw_write_free : (object : Operand) (index : ℕ) (input : Input) (address word : ℕ) → IsWritableInput input →
      Ok (address, word) ≡ written_words s.heap.place (written_field s.graph (operand_value s object) index (input_value s input)) →
      is_protected_at v.heap address ≡ false →
      Ok (address, word) ≡ written_words s.heap.place (raw_written_field s.graph (operand_value s object) index (input_value s input))
  raw_write_free object index input address word i w free =
      raw_found object index input address word (written_field s.graph (operand_value s object) index (input_value s input)) true i refl w free

  pub raw_write_guarded : (object : Operand) (index : ℕ) (input : Input) (address word : ℕ) → IsWritableInput input →
      Ok (address, word) ≡ written_words s.heap.place (written_field s.graph (operand_value s object) index (input_value s input)) →
      is_protected_at v.heap address ≡ true →
      Err Protected ≡ written_words s.heap.place (raw_written_field s.graph (operand_value s object) index (input_value s input))
  raw_write_guarded object index input address word i w guarded =
      raw_found object index input address word (written_field s.graph (operand_value s object) index (input_value s input)) false i refl w guarded

  pub raw_write_lost : (object : Operand) (index : ℕ) (input : Input) (why : Refusal) →
      Err why ≡ written_words s.heap.place (written_field s.graph (operand_value s object) index (input_value s input)) →
      Err why ≡ written_words s.heap.place (raw_written_field s.graph (operand_value s object) index (input_value s input))
  raw_write_lost object index input why e =
      e ∙ ap (written_words s.heap.place) (is_lost ∙ sym (ap (λ found. and_then found (unguarded s.graph)) is_lost))
    where
      is_lost : written_field s.graph (operand_value s object) index (input_value s input) ≡ Err why
      is_lost = refused_write s.heap.place (written_field s.graph (operand_value s object) index (input_value s input)) why e

  -- `unprotect`

  -- the address of the object that a word names is the place of its name
  named_at : (value : Value) → IsPresentValue s.heap.place value →
      ok_or (if is_object v.heap (value_word s.heap.place value) then Some (value_word s.heap.place value) else None) NotObject ≡
      named_address s.heap.place (object_in value)
  named_at Nil present = ap (λ (found : Option ℕ). ok_or found NotObject) (cond-false (is_object v.heap 0) (Some 0) None (nothing_at_zero v s h))
  named_at (Small number) present =
      ap (λ (found : Option ℕ). ok_or found NotObject)
      (cond-false (is_object v.heap (2 * number + 1)) (Some (2 * number + 1)) None (nothing_at_odd v s h number))
  named_at (Name name) present =
      let at = some_get (get s.heap.place name) (name_present s.heap.place name present) in
      let word : value_word s.heap.place (Name name) ≡ at.0 = ap (λ (o : Option ℕ). unwrap_or o 0) at.1 in
      let is : is_object v.heap (value_word s.heap.place (Name name)) ≡ true =
      ap (is_object v.heap) word ∙ h.represents.heap.objects.stands name at.0 at.1 in
      ap (λ (found : Option ℕ). ok_or found NotObject)
      (cond-true (is_object v.heap (value_word s.heap.place (Name name))) (Some (value_word s.heap.place (Name name))) None is)

  named_result : (found : Result Value Refusal) (word : ℕ) → IsPresentResult s found → Ok word ≡ word_result s.heap.place found →
      ok_or (if is_object v.heap word then Some word else None) NotObject ≡ named_address s.heap.place (and_then found object_in)
  named_result (Ok value) word present e =
      ap (λ word. ok_or (if is_object v.heap word then Some word else None) NotObject) (ok_same word (value_word s.heap.place value) e) ∙ named_at value present
  named_result (Err why) word present e = absurd (cc)

  pub named_found : (object : Operand) (word : ℕ) → Ok word ≡ word_result s.heap.place (operand_value s object) →
      ok_or (if is_object v.heap word then Some word else None) NotObject ≡ named_address s.heap.place (and_then (operand_value s object) object_in)
  named_found object word e = named_result (operand_value s object) word (operand_present v s h object) e

  pub named_lost : (object : Operand) (why : Refusal) → Err why ≡ word_result s.heap.place (operand_value s object) →
      Err why ≡ named_address s.heap.place (and_then (operand_value s object) object_in)
  named_lost object why e =
      sym (ap (λ found. named_address s.heap.place (and_then found object_in)) (refused_value s.heap.place (operand_value s object) why e))

  unprotect_named : (object : Operand) (address : ℕ) (found : Result ℕ Refusal) → and_then (operand_value s object) object_in ≡ found →
      Ok address ≡ named_address s.heap.place found → Answers s (with_unprotected v address) (Unprotect object) Done
  unprotect_named object address (Ok name) e a =
      let here : address ≡ value_word s.heap.place (Name name) = ok_same address (value_word s.heap.place (Name name)) a in
      let at = some_get (get s.heap.place name)
      (name_present s.heap.place name (named_holds s (IsPresentValue s.heap.place) (present_kept s h.sound) object name e)) in
      subst (λ a. Answers s (with_unprotected v a) (Unprotect object) Done) (sym here) (record {
        state = noted (unprotected s name);
        represents = after_unprotected v s h name (value_word s.heap.place (Name name)) (at.1 ∙ ap (λ (o : Option ℕ). Some (unwrap_or o 0)) (sym at.1));
        replies = rw e (refl, refl);
      })
  unprotect_named object address (Err why) e a = absurd (cc)

  pub unprotect_done : (object : Operand) (address : ℕ) → Ok address ≡ named_address s.heap.place (and_then (operand_value s object) object_in) →
      Answers s (with_unprotected v address) (Unprotect object) Done
  unprotect_done object address a = unprotect_named object address (and_then (operand_value s object) object_in) refl a

  pub unprotect_refused : (object : Operand) (why : Refusal) → Err why ≡ named_address s.heap.place (and_then (operand_value s object) object_in) →
      Answers s v (Unprotect object) (Refused why)
  unprotect_refused object why e = record {
    state = s;
    represents = h.represents;
    replies = rw (refused_name s.heap.place (and_then (operand_value s object) object_in) why e) (record { reply_is = refl; unchanged = refl });
  }

  -- `same`

  pub compared : (left right : Operand) (reply : Reply) → reply ≡ same_reply (both (operand_value s left) (operand_value s right)) →
      Answers s v (Same left right) reply
  compared left right reply e = record { state = s; represents = h.represents; replies = (e, refl) }
