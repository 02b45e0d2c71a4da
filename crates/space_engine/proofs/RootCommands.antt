-- What the commands that write roots reply, and the states after them.
use Rattle.std.proofs.Common.{◌≡◌, ◌≢◌, ℕ, ◌+◌, List, true, false, true≢false, refl, sym, ap, ◌∙◌, inl, inr, Option, None, Some, Result, Ok, Err}
use Rattle.std.specs.Prelude.{is_some}
use Rattle.space_model.specs.declared.command.Command.TheVariants.{Set, DropRoot, Load}
use Rattle.space_model.specs.declared.command.Input.{Input}
use Rattle.space_model.specs.declared.command.Operand.{Operand}
use Rattle.space_model.specs.declared.reply.Refusal.{Refusal}
use Rattle.space_model.specs.declared.reply.Refusal.TheVariants.{NoRoot}
use Rattle.space_model.specs.declared.reply.Reply.{Reply}
use Rattle.space_model.specs.declared.reply.Reply.TheVariants.{NoMemory, Done, Read, Refused}
use Rattle.space_model.specs.declared.value.Value.{Value}
use Rattle.space_model.specs.RootCommands.{field_value}
use Rattle.space_model.specs.CommandTexts.{IsWritableInput}
use Rattle.space_model.specs.Moments.{noted}
use Rattle.space_model.specs.Operands.{operand_value, input_value, value_word, word_value}
use Rattle.space_model.specs.Pieces.{root_written, root_dropped}
use Rattle.space_model.specs.Sound.{IsSmall}
use Rattle.space_model.specs.State.{State}
use Rattle.space_model.proofs.StackWords.{word_value-back}
use Rattle.space_model.proofs.ValuesHold.{input_holds, read_holds}
use Rattle.space_model.proofs.ValuesKept.{IsPresentValue, present_kept, small_kept}
use Rattle.space_roots.specs.WordRoots.{root_word}
use Rattle.space_roots.proofs.RootLemmas.{without_root-absent}
use Rattle.space_engine.specs.Stands.{Holds}
use Rattle.space_engine.specs.Steps.{Answers, HandsOut}
use Rattle.space_engine.specs.Ticks.{IsReplyTicked}
use Rattle.space_engine.specs.Views.{View, with_root_written, with_root_dropped}
use Rattle.space_engine.specs.Words.{word_result}
use Rattle.space_engine.proofs.Changes.{after_root_written, after_root_dropped}
use Rattle.space_engine.proofs.Outcomes.{ok_same}
use Rattle.space_engine.proofs.Reading.{root_absent, root_there, word_value-forth, word_present}
use Rattle.space_engine.proofs.WordResults.{refused_value}

none_where : (found : Option ℕ) → is_some found ≡ false → found ≡ None
none_where None e = refl
none_where (Some word) e = absurd (true≢false e)

-- where a field was read the reply is no refusal, and the ledger's count rose by one
pub loaded_ticked : (root : List ℕ) (object : Operand) (index : ℕ) (reply : Reply) (before after : ℕ) → ((why : Refusal) → reply ≢ Refused why) →
    after ≡ before + 1 → IsReplyTicked (Load root object index) reply before after
loaded_ticked root object index (Refused why) before after accepted e = absurd (accepted why refl)
loaded_ticked root object index _ before after accepted e = e

module _ (v : View) (s : State) (h : Holds v s) where
  -- `set`

  set_value : (root : List ℕ) (input : Input) (word : ℕ) (found : Result Value Refusal) → IsWritableInput input → input_value s input ≡ found →
      Ok word ≡ word_result s.heap.place found →
      Answers s (with_root_written v root word) (Set root input) Done
  set_value root input word (Ok value) small e w = record {
    state = noted (root_written s root value);
    represents = after_root_written v s h root value word (ok_same word (value_word s.heap.place value) w)
        (input_holds s (IsPresentValue s.heap.place) (present_kept s h.sound) input value small e);
    replies = rw e (inl (refl, refl));
  }
  set_value root input word (Err why) small e w = absurd (cc)

  pub set_done : (root : List ℕ) (input : Input) (word : ℕ) → IsWritableInput input → Ok word ≡ word_result s.heap.place (input_value s input) →
      Answers s (with_root_written v root word) (Set root input) Done
  set_done root input word small w = set_value root input word (input_value s input) small refl w

  unset_value : (root : List ℕ) (input : Input) (word : ℕ) (found : Result Value Refusal) → input_value s input ≡ found →
      Ok word ≡ word_result s.heap.place found → root_word v.roots root ≡ None → Answers s v (Set root input) NoMemory
  unset_value root input word (Ok value) e w none = record {
    state = s;
    represents = h.represents;
    replies = rw e (inr (refl, root_absent v s h root none, refl));
  }
  unset_value root input word (Err why) e w none = absurd (cc)

  pub set_unwritten : (root : List ℕ) (input : Input) (word : ℕ) → Ok word ≡ word_result s.heap.place (input_value s input) → root_word v.roots root ≡ None →
      Answers s v (Set root input) NoMemory
  set_unwritten root input word w none = unset_value root input word (input_value s input) refl w none

  pub set_refused : (root : List ℕ) (input : Input) (why : Refusal) → Err why ≡ word_result s.heap.place (input_value s input) →
      Answers s v (Set root input) (Refused why)
  set_refused root input why e = record {
    state = s;
    represents = h.represents;
    replies = rw (refused_value s.heap.place (input_value s input) why e) (record { reply_is = refl; unchanged = refl });
  }

  -- `drop`

  pub dropped : (root : List ℕ) → is_some (root_word v.roots root) ≡ true → Answers s (with_root_dropped v root) (DropRoot root) Done
  dropped root there =
      let has = root_there v s h root there in
      record { state = noted (root_dropped s root); represents = after_root_dropped v s h root; replies = rw has.1 (refl, refl) }

  pub drop_refused : (root : List ℕ) → is_some (root_word v.roots root) ≡ false → Answers s (with_root_dropped v root) (DropRoot root) (Refused NoRoot)
  drop_refused root lacking =
      let none = none_where (root_word v.roots root) lacking in
      record {
        state = s;
        represents = rw (without_root-absent v.roots root none) h.represents;
        replies = rw (root_absent v s h root none) (record { reply_is = refl; unchanged = refl });
      }

  -- a root gets a word, and its value is told

  pub handed_out : (root : List ℕ) (word : ℕ) (value : Value) → word_value s.heap.place word ≡ Some value →
      HandsOut s (with_root_written v root word) root value (Read value)
  handed_out root word value e = record {
    state = noted (root_written s root value);
    represents = after_root_written v s h root value word (sym (word_value-forth s.heap.place word value e)) (word_present s.heap.place word value e);
    writes = inl (refl, refl);
  }

  pub not_handed_out : (root : List ℕ) (value : Value) → root_word v.roots root ≡ None → HandsOut s v root value NoMemory
  not_handed_out root value none = record {
    state = s;
    represents = h.represents;
    writes = inr (refl, root_absent v s h root none, refl);
  }

  -- `load`

  load_value : (new : View) (root : List ℕ) (object : Operand) (index word : ℕ) (reply : Reply) (found : Result Value Refusal) →
      field_value s.graph (operand_value s object) index ≡ found → Ok word ≡ word_result s.heap.place found →
      ((value : Value) → word_value s.heap.place word ≡ Some value → HandsOut s new root value reply) → Answers s new (Load root object index) reply
  load_value new root object index word reply (Ok value) e w hands =
      let word_is : word ≡ value_word s.heap.place value = ok_same word (value_word s.heap.place value) w in
      let present : IsPresentValue s.heap.place value = read_holds s (IsPresentValue s.heap.place) (present_kept s h.sound) object index value e in
      let small : IsSmall value = read_holds s IsSmall (small_kept s h.sound) object index value e in
      let out = hands value (ap (word_value s.heap.place) word_is ∙ word_value-back s value h.sound present small) in
      record { state = out.state; represents = out.represents; replies = rw e out.writes }
  load_value new root object index word reply (Err why) e w hands = absurd (cc)

  -- the word of the field is handed out
  pub loaded : (new : View) (root : List ℕ) (object : Operand) (index word : ℕ) (reply : Reply) →
      Ok word ≡ word_result s.heap.place (field_value s.graph (operand_value s object) index) →
      ((value : Value) → word_value s.heap.place word ≡ Some value → HandsOut s new root value reply) → Answers s new (Load root object index) reply
  loaded new root object index word reply w hands =
      load_value new root object index word reply (field_value s.graph (operand_value s object) index) refl w hands

  pub load_refused : (root : List ℕ) (object : Operand) (index : ℕ) (why : Refusal) →
      Err why ≡ word_result s.heap.place (field_value s.graph (operand_value s object) index) → Answers s v (Load root object index) (Refused why)
  load_refused root object index why e = record {
    state = s;
    represents = h.represents;
    replies = rw (refused_value s.heap.place (field_value s.graph (operand_value s object) index) why e) (record { reply_is = refl; unchanged = refl });
  }
