-- What the commands on weak maps reply, and the states after them.
use Rattle.std.proofs.Common.{◌≡◌, ℕ, List, refl, ap, sym, ◌∙◌, subst, inl, inr, Option, None, Some, Result, Ok, Err}
use Rattle.std.specs.Prelude.{is_some, IfOk}
use Rattle.std.specs.Option.{option_map}
use Rattle.std.specs.List.Sorted.{IsPermutation}
use Rattle.space_model.specs.declared.command.Command.TheVariants.{WeakSet, WeakGet, WeakKey, WeakSize, WeakDelete}
use Rattle.space_model.specs.declared.command.Operand.{Operand}
use Rattle.space_model.specs.declared.reply.Refusal.{Refusal}
use Rattle.space_model.specs.declared.reply.Reply.{Reply}
use Rattle.space_model.specs.declared.reply.Reply.TheVariants.{NoMemory, Done, Read, Truth, Number, Refused}
use Rattle.space_model.specs.declared.value.Value.{Value}
use Rattle.space_model.specs.declared.value.Value.TheVariants.{Nil, Name}
use Rattle.space_model.specs.Operands.{operand_value, object_in, word_value}
use Rattle.space_model.specs.Refusals.{and_then, both}
use Rattle.space_model.specs.RootCommands.{WritesRoot}
use Rattle.space_model.specs.State.{State, WeakEntry}
use Rattle.space_model.specs.WeakCommands.{weak_replaced, name_or_nil}
use Rattle.space_model.specs.WeakMaps.{weak_value, with_weak_value, without_weak_value}
use Rattle.space_model.proofs.StackWords.{word_value-name}
use Rattle.space_heap.specs.Objects.{object_of, resolved}
use Rattle.space_weak.specs.WeakEntries.{Entry, entry_with, entry_of, size_of, with_entry, without_entry}
use Rattle.space_weak.proofs.ModelEntries.{sizes_same}
use Rattle.space_engine.specs.Stands.{HasWeakEntries, Represents, Holds}
use Rattle.space_engine.specs.Steps.{Answers, HandsOut}
use Rattle.space_engine.specs.Views.{View, with_weak}
use Rattle.space_engine.specs.Words.{named_address}
use Rattle.space_engine.proofs.OperandObjects.{operand_at}
use Rattle.space_engine.proofs.Outcomes.{ok_same, some_same}
use Rattle.space_engine.proofs.WeakEntryLaws.{weak_set_over, weak_deleted_over}
use Rattle.space_engine.proofs.WordResults.{refused_name, refused_both}

-- both, where each is there
both_parts : (a b : ℕ) (x y : Result ℕ Refusal) → Ok (a, b) ≡ both x y → (x ≡ Ok a) × (y ≡ Ok b)
both_parts a b (Ok m) (Ok n) e =
    let pair : ◌≡◌ {A = ℕ × ℕ} (a, b) (m, n) = ok_same (a, b) (m, n) e in
    (ap Ok (sym (ap (λ (p : ℕ × ℕ). p.0) pair)), ap Ok (sym (ap (λ (p : ℕ × ℕ). p.1) pair)))
both_parts a b (Ok m) (Err why) e = absurd (cc)
both_parts a b (Err why) (Ok n) e = absurd (cc)
both_parts a b (Err why) (Err other) e = absurd (cc)

-- what holds of each holds of both
pub both_there : (P : ℕ → Type 0) (a b : ℕ) (x y : Result ℕ Refusal) → Ok (a, b) ≡ both x y → IfOk x P → IfOk y P → P a × P b
both_there P a b x y e p q =
    let parts = both_parts a b x y e in
    (subst (λ (x : Result ℕ Refusal). IfOk x P) parts.0 p, subst (λ (y : Result ℕ Refusal). IfOk y P) parts.1 q)

-- an entry that is found has a value
some_found : (found : Option Entry) → is_some (option_map (λ (entry : Entry). entry.value_name) found) ≡ is_some found
some_found None = refl
some_found (Some entry) = refl

module _ (v : View) (s : State) (h : Holds v s) where
  -- the weak maps have other entries
  after_weak_replaced : (entries : List Entry) (weak : List WeakEntry) → HasWeakEntries s.heap.place weak entries v.heap →
      Represents (with_weak v entries) (weak_replaced s weak)
  after_weak_replaced entries weak has = record {
    heap = h.represents.heap;
    generations = h.represents.generations;
    colours = h.represents.colours;
    roots = h.represents.roots;
    stack = h.represents.stack;
    ids = h.represents.ids;
    weak = has;
    finals = h.represents.finals;
  }

  -- a key has a value in the state where it has an entry
  has_value : (weak : List ℕ) (key : ℕ) → is_some (weak_value s.tables.weak weak key) ≡ is_some (entry_of v.weak weak key)
  has_value weak key = ap is_some (h.represents.weak.values weak key) ∙ some_found (entry_of v.weak weak key)

  -- `wset`

  abbrev both_addresses : Operand → Operand → Result (ℕ × ℕ) Refusal
  both_addresses key value =
      both (named_address s.heap.place (and_then (operand_value s key) object_in)) (named_address s.heap.place (and_then (operand_value s value) object_in))

  pub weak_set_done : (new : List Entry) (weak : List ℕ) (key value : Operand) (a b : ℕ) → Ok (a, b) ≡ both_addresses key value →
      IsPermutation (with_entry v.weak (entry_with weak (object_of v.heap a).name a (object_of v.heap b).name b)) new →
      Answers s (with_weak v new) (WeakSet weak key value) Done
  weak_set_done new weak key value a b e same =
      let parts = both_parts a b _ _ e in
      let key_at = operand_at v s h key a (sym parts.0) in
      let value_at = operand_at v s h value b (sym parts.1) in
      let key_name = (object_of v.heap a).name in
      let value_name = (object_of v.heap b).name in
      record {
        state = weak_replaced s (with_weak_value s.tables.weak weak key_name value_name);
        represents = after_weak_replaced new (with_weak_value s.tables.weak weak key_name value_name)
            (weak_set_over s.heap.place v.heap s.tables.weak v.weak new h.represents.weak weak key_name a value_name b
            (record { key = key_at.leads; value = value_at.leads }) same);
        replies = rw (key_at.is, value_at.is) (inl (refl, refl));
      }

  pub weak_set_lacking : (weak : List ℕ) (key value : Operand) (a b : ℕ) → Ok (a, b) ≡ both_addresses key value →
      entry_of v.weak weak (object_of v.heap a).name ≡ None → Answers s v (WeakSet weak key value) NoMemory
  weak_set_lacking weak key value a b e none =
      let parts = both_parts a b _ _ e in
      let key_at = operand_at v s h key a (sym parts.0) in
      let value_at = operand_at v s h value b (sym parts.1) in
      record {
        state = s;
        represents = h.represents;
        replies = rw (key_at.is, value_at.is) (inr (
          refl,
          h.represents.weak.values weak (object_of v.heap a).name ∙ ap (option_map (λ (entry : Entry). entry.value_name)) none,
          refl,
        ));
      }

  pub weak_set_refused : (weak : List ℕ) (key value : Operand) (why : Refusal) → Err why ≡ both_addresses key value →
      Answers s v (WeakSet weak key value) (Refused why)
  weak_set_refused weak key value why e = record {
    state = s;
    represents = h.represents;
    replies = rw (refused_both s.heap.place (and_then (operand_value s key) object_in) (and_then (operand_value s value) object_in) why e)
        (record { reply_is = refl; unchanged = refl });
  }

  -- `wget`

  -- what is handed out is what the key has in the map
  got : (new : View) (root weak : List ℕ) (key : Operand) (address : ℕ) (found : Option ℕ) (reply : Reply) →
      Ok address ≡ named_address s.heap.place (and_then (operand_value s key) object_in) →
      weak_value s.tables.weak weak (object_of v.heap address).name ≡ found → HandsOut s new root (name_or_nil found) reply →
      Answers s new (WeakGet root weak key) reply
  got new root weak key address found reply a e out = record {
    state = out.state;
    represents = out.represents;
    replies = rw (operand_at v s h key address a).is
        (subst (λ found. WritesRoot s root (name_or_nil found) (Read (name_or_nil found)) reply out.state) (sym e) out.writes);
  }

  pub weak_got : (new : View) (root weak : List ℕ) (key : Operand) (address kept : ℕ) (reply : Reply) →
      Ok address ≡ named_address s.heap.place (and_then (operand_value s key) object_in) →
      Some kept ≡ option_map (λ (entry : Entry). entry.value_address) (entry_of v.weak weak (object_of v.heap address).name) →
      ((value : Value) → word_value s.heap.place (resolved v.heap kept) ≡ Some value → HandsOut s new root value reply) →
      Answers s new (WeakGet root weak key) reply
  weak_got new root weak key address kept reply a e hands = by_entry (entry_of v.weak weak (object_of v.heap address).name) refl e
    where
      by_entry : (found : Option Entry) → entry_of v.weak weak (object_of v.heap address).name ≡ found →
          ◌≡◌ {A = Option ℕ} (Some kept) (option_map (λ (entry : Entry). entry.value_address) found) → Answers s new (WeakGet root weak key) reply
      by_entry None f e = absurd (cc)
      by_entry (Some entry) f e =
          let name = (object_of v.heap address).name in
          let at = (h.represents.weak.at weak name entry f).value in
          let here : entry.value_address ≡ kept = sym (some_same kept entry.value_address e) in
          got new root weak key address (Some entry.value_name) reply a
          (h.represents.weak.values weak name ∙ ap (option_map (λ (entry : Entry). entry.value_name)) f)
          (hands (Name entry.value_name)
          (word_value-name s.graph s.heap.pages s.heap.place entry.value_name (resolved v.heap kept) h.sound.layout.placed
          (at ∙ ap (λ a. Some (resolved v.heap a)) here)))

  pub weak_got_nil : (new : View) (root weak : List ℕ) (key : Operand) (address : ℕ) (reply : Reply) →
      Ok address ≡ named_address s.heap.place (and_then (operand_value s key) object_in) →
      None ≡ option_map (λ (entry : Entry). entry.value_address) (entry_of v.weak weak (object_of v.heap address).name) →
      ((value : Value) → word_value s.heap.place 0 ≡ Some value → HandsOut s new root value reply) →
      Answers s new (WeakGet root weak key) reply
  weak_got_nil new root weak key address reply a e hands =
      got new root weak key address None reply a
      (h.represents.weak.values weak (object_of v.heap address).name ∙ none_of (entry_of v.weak weak (object_of v.heap address).name) e) (hands Nil refl)
    where
      none_of : (found : Option Entry) → ◌≡◌ {A = Option ℕ} None (option_map (λ (entry : Entry). entry.value_address) found) →
          ◌≡◌ {A = Option ℕ} (option_map (λ (entry : Entry). entry.value_name) found) None
      none_of None e = refl
      none_of (Some entry) e = absurd (cc)

  pub weak_get_refused : (root weak : List ℕ) (key : Operand) (why : Refusal) →
      Err why ≡ named_address s.heap.place (and_then (operand_value s key) object_in) → Answers s v (WeakGet root weak key) (Refused why)
  weak_get_refused root weak key why e = record {
    state = s;
    represents = h.represents;
    replies = rw (refused_name s.heap.place (and_then (operand_value s key) object_in) why e) (record { reply_is = refl; unchanged = refl });
  }

  -- `wkey`

  pub weak_key_told : (weak : List ℕ) (key : Operand) (address : ℕ) → Ok address ≡ named_address s.heap.place (and_then (operand_value s key) object_in) →
      Answers s v (WeakKey weak key) (Truth (is_some (entry_of v.weak weak (object_of v.heap address).name)))
  weak_key_told weak key address a = record {
    state = s;
    represents = h.represents;
    replies = rw (operand_at v s h key address a).is (ap Truth (sym (has_value weak (object_of v.heap address).name)), refl);
  }

  pub weak_key_refused : (weak : List ℕ) (key : Operand) (why : Refusal) →
      Err why ≡ named_address s.heap.place (and_then (operand_value s key) object_in) → Answers s v (WeakKey weak key) (Refused why)
  weak_key_refused weak key why e = record {
    state = s;
    represents = h.represents;
    replies = rw (refused_name s.heap.place (and_then (operand_value s key) object_in) why e) (record { reply_is = refl; unchanged = refl });
  }

  -- `wsize`

  pub weak_counted : (weak : List ℕ) → Answers s v (WeakSize weak) (Number (size_of v.weak weak))
  weak_counted weak = record {
    state = s;
    represents = h.represents;
    replies = (
      ap Number (sym (sizes_same s.heap.place s.tables.weak v.weak weak h.sound.weak h.represents.weak.apart h.represents.weak.values)),
      refl,
    );
  }

  -- `wdel`

  pub weak_deleted : (new : List Entry) (weak : List ℕ) (key : Operand) (address : ℕ) →
      Ok address ≡ named_address s.heap.place (and_then (operand_value s key) object_in) →
      IsPermutation (without_entry v.weak weak (object_of v.heap address).name) new →
      Answers s (with_weak v new) (WeakDelete weak key) (Truth (is_some (entry_of v.weak weak (object_of v.heap address).name)))
  weak_deleted new weak key address a same =
      let name = (object_of v.heap address).name in
      record {
        state = weak_replaced s (without_weak_value s.tables.weak weak name);
        represents = after_weak_replaced new (without_weak_value s.tables.weak weak name)
            (weak_deleted_over s.heap.place v.heap s.tables.weak v.weak new h.represents.weak weak name same);
        replies = rw (operand_at v s h key address a).is (ap Truth (sym (has_value weak name)), refl);
      }

  pub weak_delete_refused : (weak : List ℕ) (key : Operand) (why : Refusal) →
      Err why ≡ named_address s.heap.place (and_then (operand_value s key) object_in) → Answers s v (WeakDelete weak key) (Refused why)
  weak_delete_refused weak key why e = record {
    state = s;
    represents = h.represents;
    replies = rw (refused_name s.heap.place (and_then (operand_value s key) object_in) why e) (record { reply_is = refl; unchanged = refl });
  }
