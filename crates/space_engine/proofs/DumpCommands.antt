-- `dump` and `peek`: what is written is lawful from each state that the space stands for.
use Rattle.std.proofs.Common.{◌≡◌, ◌≢◌, ◌⊎◌, ℕ, ◌<◌, ◌^◌, List, [], ◌∷◌, ◌++◌, length, map, nat_eq, refl, sym, ap, ◌∙◌, subst, arith, inl, inr, ⊎_elim, append-nil, Option, Result, Ok, Err}
use Rattle.std.specs.Prelude.{unwrap_or}
use Rattle.std.specs.FinMap.{get}
use Rattle.std.specs.Set.{is_member}
use Rattle.std.specs.Io.KnownBytes.{Appends}
use Rattle.std.proofs.KnownBytes.{Appends-trans}
use Rattle.std.proofs.Math.ListN.{length-map}
use Rattle.std.proofs.lemmas.List.{map-append}
use Rattle.std.proofs.lemmas.Simd.{map-map}
use Rattle.space_io.specs.Sinks.{AppendsPrefix}
use Rattle.space_model.specs.declared.command.Command.TheVariants.{Dump, Peek}
use Rattle.space_model.specs.declared.command.Operand.{Operand}
use Rattle.space_model.specs.declared.reply.Refusal.{Refusal}
use Rattle.space_model.specs.declared.reply.Reply.{Reply}
use Rattle.space_model.specs.declared.reply.Reply.TheVariants.{NoMemory, Dumped, Refused}
use Rattle.space_model.specs.DumpLines.{DumpLine}
use Rattle.space_model.specs.Dumps.{Dumps, dump_lines, peek_answer}
use Rattle.space_model.specs.Operands.{object_of as operand_object}
use Rattle.space_model.specs.Outputs.{Output, Listed, Peeked, Replied}
use Rattle.space_model.specs.Spelling.{IsSpelled}
use Rattle.space_model.specs.State.{State}
use Rattle.space_model.specs.Texts.{output_pieces, reply_pieces, stored_pieces, line_of_pieces, text_of}
use Rattle.space_model.proofs.Members.{member_left}
use Rattle.space_dump.specs.HeapLines.{line_at}
use Rattle.space_heap.specs.HeapView.{HeapView}
use Rattle.space_heap.specs.Objects.{object_of}
use Rattle.space_heap.specs.SoundHeap.{IsSoundHeap}
use Rattle.space_collector.specs.GoneNames.{name_at}
use Rattle.space_collector.proofs.ToldLines.{text_of-append, prefix_after, prefix_longer}
use Rattle.space_engine.specs.declared.counts.Counts.{Counts}
use Rattle.space_engine.specs.Answered.{AreLawful, IsWritten, IsWrittenInPart}
use Rattle.space_engine.specs.Counting.{no_counts, reply_counts, sum_of_counts, counts_of}
use Rattle.space_engine.specs.HeapDumps.{AreListed, lines_at, object_addresses}
use Rattle.space_engine.specs.Stands.{Holds}
use Rattle.space_engine.specs.Steps.{Gives}
use Rattle.space_engine.specs.Ticks.{AreDumpTicked, ArePeekTicked}
use Rattle.space_engine.specs.Turns.{CanAnswer}
use Rattle.space_engine.specs.Views.{View}
use Rattle.space_engine.specs.Words.{named_address}
use Rattle.space_engine.proofs.DumpLines.{AreObjects, lines_same, listed_objects, names_present, lines_spelled}
use Rattle.space_engine.proofs.DumpLists.{listed_all}
use Rattle.space_engine.proofs.ObjectLists.{few_listed}
use Rattle.space_engine.proofs.OperandObjects.{operand_at}
use Rattle.space_engine.proofs.OutputLists.{counts_of-append, AreSpelled-append}

counts_of_lines : (v : HeapView) (xs : List ℕ) → counts_of (lines_at v xs) ≡ no_counts
counts_of_lines v [] = refl
counts_of_lines v (x ∷ xs) = ap (sum_of_counts no_counts) (counts_of_lines v xs)

-- the lines of some objects, and then the reply
abbrev dump_outputs : HeapView → List ℕ → Reply → List Output
dump_outputs v addresses reply = lines_at v addresses ++ Replied reply ∷ []

dump_text : (v : HeapView) (addresses : List ℕ) (reply : Reply) →
    text_of (dump_outputs v addresses reply) ≡ text_of (lines_at v addresses) ++ line_of_pieces (reply_pieces reply)
dump_text v addresses reply =
    text_of-append (lines_at v addresses) (Replied reply ∷ [])
    ∙ ap (λ xs. text_of (lines_at v addresses) ++ xs) (append-nil (line_of_pieces (reply_pieces reply)))

-- the reply tells how many objects there are, where all were listed, or that there was no memory
abbrev IsLastOf : List ℕ → List ℕ → Reply → Type 0
IsLastOf listed others reply = ((others ≡ []) × (reply ≡ Dumped (length listed))) ⊎ ((others ≢ []) × (reply ≡ NoMemory))

module _ (v : View) (listed others : List ℕ) (reply : Reply) (addresses : object_addresses v.heap ≡ listed ++ others)
    (last : IsLastOf listed others reply) where
  abbrev outputs : List Output
  outputs = dump_outputs v.heap listed reply

  module _ (s : State) (h : Holds v s) where
    are_objects : AreObjects v s h listed
    are_objects a m = listed_objects v s h a (ap (λ xs. is_member nat_eq xs a) addresses ∙ member_left listed others a m)

    abbrev names : List ℕ → List ℕ
    names xs = map (name_at v.heap) xs

    lines_are : outputs ≡ dump_lines s (names listed) ++ Replied reply ∷ []
    lines_are = ap (λ lines. lines ++ Replied reply ∷ []) (lines_same v s h listed are_objects)

    all_dumped : others ≡ [] → reply ≡ Dumped (length listed) →
        outputs ≡ dump_lines s (names (object_addresses v.heap)) ++ Replied (Dumped (length (names (object_addresses v.heap)))) ∷ []
    all_dumped none told =
        let all : listed ≡ object_addresses v.heap = sym (addresses ∙ ap (λ xs. listed ++ xs) none ∙ append-nil listed) in
        lines_are
        ∙ ap (λ r. dump_lines s (names listed) ++ Replied r ∷ []) (told ∙ ap Dumped (sym (length-map listed (name_at v.heap))))
        ∙ ap (λ xs. dump_lines s (names xs) ++ Replied (Dumped (length (names xs))) ∷ []) all

    no_name : (xs : List ℕ) → xs ≢ [] → names xs ≢ []
    no_name [] some e = some refl
    no_name (x ∷ xs) some e = absurd (cc)

    dumps : Dumps s outputs s
    dumps = record {
      names = names (object_addresses v.heap);
      present = names_present v s h;
      lines = ⊎_elim
          (λ (none, told). inl (all_dumped none told))
          (λ (some, told). inr (record {
            before = names listed;
            others = names others;
            names_are = ap names addresses ∙ map-append (name_at v.heap) listed others;
            some = no_name others some;
            answer_is = lines_are ∙ ap (λ r. dump_lines s (names listed) ++ Replied r ∷ []) told;
          }))
          last;
      unchanged = refl;
    }

  dump_lawful : CanAnswer v.heap → IsSpelled (reply_pieces reply) → AreLawful v v Dump outputs
  dump_lawful able spelled = record {
    gives = λ s h. record {
      state = s;
      represents = h.represents;
      lawful = record { events = []; answer = outputs; outputs_are = refl; effects = (refl, dumps s h) };
    };
    spelled = λ s h. AreSpelled-append (lines_at v.heap listed) (Replied reply ∷ []) (lines_spelled v s h able listed (are_objects s h)) (spelled, tt);
  }

  -- neither a line nor the reply of a listing counts but for its own
  reply_counted : counts_of (Replied reply ∷ []) ≡ reply_counts reply
  reply_counted = ⊎_elim
      (λ (none, told). subst (λ r. counts_of (Replied r ∷ []) ≡ reply_counts r) (sym told) refl)
      (λ (some, told). subst (λ r. counts_of (Replied r ∷ []) ≡ reply_counts r) (sym told) refl)
      last

  outputs_counted : counts_of outputs ≡ sum_of_counts no_counts (reply_counts reply)
  outputs_counted =
      counts_of-append (lines_at v.heap listed) (Replied reply ∷ [])
      ∙ ap (λ c. sum_of_counts c (counts_of (Replied reply ∷ []))) (counts_of_lines v.heap listed)
      ∙ ap (sum_of_counts no_counts) reply_counted

module _ (v : View) (able : CanAnswer v.heap) (reply : Reply) (before now : Option (List ℕ)) (ticks ticked : ℕ)
    (l : AreListed v.heap reply before now ticks ticked) (spelled : IsSpelled (reply_pieces reply)) where
  last_of : IsLastOf l.listed l.others reply
  last_of = ⊎_elim (λ (none, told, rose). inl (none, told)) (λ (some, told, rose). inr (some, told)) l.ends

  lawful_listed : AreLawful v v Dump (dump_outputs v.heap l.listed reply)
  lawful_listed = dump_lawful v l.listed l.others reply l.addresses last_of able spelled

  abbrev lines : List DumpLine
  lines = map (line_at v.heap) l.listed

  lines_listed : (r : Reply) → lines_at v.heap l.listed ++ Replied r ∷ [] ≡ map Listed lines ++ Replied r ∷ []
  lines_listed r = ap (λ xs. xs ++ Replied r ∷ []) (sym (map-map Listed (line_at v.heap) l.listed))

  long : length lines ≡ length l.listed
  long = length-map l.listed (line_at v.heap)

  dump_ticked : AreDumpTicked (dump_outputs v.heap l.listed reply) ticks ticked
  dump_ticked = ⊎_elim
      (λ (none, told, rose). record {
        lines = lines;
        lacking = 0;
        outputs_are = inl (refl, ap (λ r. dump_outputs v.heap l.listed r) (told ∙ ap Dumped (sym long)) ∙ lines_listed (Dumped (length lines)));
        ticked = (let n = long in omega arith);
      })
      (λ (some, told, rose). record {
        lines = lines;
        lacking = 1;
        outputs_are = inr (refl, ap (λ r. dump_outputs v.heap l.listed r) told ∙ lines_listed NoMemory);
        ticked = (let n = long in omega arith);
      })
      l.ends

  -- the reply was written after the lines
  pub dump_written : (counts : Counts) (after : Option (List ℕ)) → counts ≡ sum_of_counts no_counts (reply_counts reply) →
      Appends now after (line_of_pieces (reply_pieces reply)) → IsWritten v v Dump counts before after ticks ticked
  dump_written counts after counted written = record {
    outputs = dump_outputs v.heap l.listed reply;
    lawful = lawful_listed;
    done = λ s h. record {
      counted = counted ∙ sym (outputs_counted v l.listed l.others reply l.addresses last_of);
      written = subst (Appends before after) (sym (dump_text v.heap l.listed reply))
          (Appends-trans before now after (text_of (lines_at v.heap l.listed)) (line_of_pieces (reply_pieces reply)) l.written written);
      ticked = dump_ticked;
    };
  }

  -- or a part of it
  pub dump_cut_off : (after : Option (List ℕ)) → AppendsPrefix now after (line_of_pieces (reply_pieces reply)) → IsWrittenInPart v v Dump before after
  dump_cut_off after written = record {
    outputs = dump_outputs v.heap l.listed reply;
    lawful = lawful_listed;
    prefix = subst (AppendsPrefix before after) (sym (dump_text v.heap l.listed reply))
        (prefix_after before now after (text_of (lines_at v.heap l.listed)) (line_of_pieces (reply_pieces reply)) l.written written);
  }

-- a part of the lines was written
pub dump_stopped : (v : View) (before after : Option (List ℕ)) → CanAnswer v.heap → IsSoundHeap v.heap →
    AppendsPrefix before after (listed_all v.heap) → IsWrittenInPart v v Dump before after
dump_stopped v before after able sound written =
    let all : List ℕ = object_addresses v.heap in
    let reply : Reply = Dumped (length all) in
    let small : length all < 2 ^ 64 = (let few = few_listed v.heap sound in omega arith) in
    record {
      outputs = dump_outputs v.heap all reply;
      lawful = dump_lawful v all [] reply (sym (append-nil all)) (inl (refl, refl)) able (small, tt);
      prefix = subst (AppendsPrefix before after) (sym (dump_text v.heap all reply))
          (prefix_longer before after (listed_all v.heap) (line_of_pieces (reply_pieces reply)) written);
    }

-- stored words need no bound
peek_spelled : (words : List ℕ) → IsSpelled (stored_pieces words)
peek_spelled [] = tt
peek_spelled (word ∷ words) = peek_spelled words

module _ (v : View) (object : Operand) where
  peek_lawful : (shown : List Output) → ((s : State) → Holds v s → shown ≡ peek_answer s (operand_object s object)) → (s : State) → (h : Holds v s) →
      Gives s v (Peek object) shown
  peek_lawful shown answer s h = record {
    state = s;
    represents = h.represents;
    lawful = record { events = []; answer = shown; outputs_are = refl; effects = (refl, (answer s h, refl)) };
  }

  refusal_named : (s : State) (why : Refusal) (found : Result ℕ Refusal) → Err why ≡ named_address s.heap.place found → found ≡ Err why
  refusal_named s why (Ok name) e = absurd (cc)
  refusal_named s why (Err other) e = cc

  -- the operand names no object
  pub peek_refused : (why : Refusal) → ((s : State) → Holds v s → Err why ≡ named_address s.heap.place (operand_object s object)) →
      AreLawful v v (Peek object) (Replied (Refused why) ∷ [])
  peek_refused why found = record {
    gives = peek_lawful (Replied (Refused why) ∷ [])
        (λ s h. ap (peek_answer s) (sym (refusal_named s why (operand_object s object) (found s h))));
    spelled = λ s h. (tt, tt);
  }

  -- it names the object at the address, whose fields have these words
  pub peek_shown : (address : ℕ) (words : List ℕ) → ((s : State) → Holds v s → Ok address ≡ named_address s.heap.place (operand_object s object)) →
      words ≡ (object_of v.heap address).fields → AreLawful v v (Peek object) (Peeked address words ∷ [])
  peek_shown address words found are = record {
    gives = peek_lawful (Peeked address words ∷ [])
        (λ s h.
        let o = operand_at v s h object address (found s h) in
        let place : address ≡ unwrap_or (get s.heap.place (object_of v.heap address).name) 0 = ap (λ (o : Option ℕ). unwrap_or o 0) (sym o.at) in
        let stored = are ∙ (h.represents.heap.objects.is (object_of v.heap address).name address o.at).fields in
        (λ i. Peeked (place i) (stored i) ∷ []) ∙ ap (peek_answer s) (sym o.is));
    spelled = λ s h. (peek_spelled words, tt);
  }

  -- one output was written
  pub peek_written : (output : Output) (counts : Counts) (before after : Option (List ℕ)) (ticks ticked : ℕ) → AreLawful v v (Peek object) (output ∷ []) →
      counts ≡ counts_of (output ∷ []) → Appends before after (line_of_pieces (output_pieces output)) → ArePeekTicked (output ∷ []) ticks ticked →
      IsWritten v v (Peek object) counts before after ticks ticked
  peek_written output counts before after ticks ticked lawful counted written rose = record {
    outputs = output ∷ [];
    lawful = lawful;
    done = λ s h. record {
      counted = counted;
      written = subst (Appends before after) (sym (append-nil (line_of_pieces (output_pieces output)))) written;
      ticked = rose;
    };
  }

  -- or a part of it
  pub peek_cut_off : (output : Output) (before after : Option (List ℕ)) → AreLawful v v (Peek object) (output ∷ []) →
      AppendsPrefix before after (line_of_pieces (output_pieces output)) → IsWrittenInPart v v (Peek object) before after
  peek_cut_off output before after lawful written = record {
    outputs = output ∷ [];
    lawful = lawful;
    prefix = subst (AppendsPrefix before after) (sym (append-nil (line_of_pieces (output_pieces output)))) written;
  }
