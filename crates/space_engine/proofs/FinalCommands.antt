-- What the commands on finalizers reply, and the states after them.
use mathlib.Core.List.{append_assoc}
use Rattle.std.proofs.lemmas.List.{append-nil, length-take}
use Rattle.std.proofs.Math.ListN.{length-append}
use Rattle.std.proofs.Common.{arith, ◌<◌, ◌^◌, ◌⊎◌, ◌-◌, ◌≤◌, zero, suc, ⊎_elim, ◌≡◌, ◌+◌, ℕ, List, [], ◌∷◌, ◌++◌, length, map, take, drop, refl, ap, sym, ◌∙◌, subst, inl, inr, Option, Ok, Err}
use Rattle.std.specs.Io.KnownBytes.{Appends}
use Rattle.std.proofs.KnownBytes.{Appends-trans}
use Rattle.space_io.specs.Sinks.{AppendsPrefix}
use Rattle.space_model.specs.declared.command.Command.TheVariants.{Final, Unfinal, Run}
use Rattle.space_model.specs.declared.command.Operand.{Operand}
use Rattle.space_model.specs.declared.event.Event.{Event}
use Rattle.space_model.specs.declared.event.Event.TheVariants.{Ran}
use Rattle.space_model.specs.declared.reply.Refusal.{Refusal}
use Rattle.space_model.specs.declared.reply.Reply.TheVariants.{NoMemory, Done, Removed, RanCount, Refused}
use Rattle.space_model.specs.FinalCommands.{finals_replaced, queue_replaced, ran_events}
use Rattle.space_model.specs.Finalizers.{labels_of, without_name}
use Rattle.space_model.specs.Operands.{operand_value, object_in}
use Rattle.space_model.specs.Outputs.{Told, Replied}
use Rattle.space_model.specs.Refusals.{and_then}
use Rattle.space_model.specs.Spelling.{IsSpelled}
use Rattle.space_model.specs.State.{State}
use Rattle.space_model.specs.Texts.{text_of, AreSpelled, event_pieces, reply_pieces, line_of_pieces}
use Rattle.space_finals.specs.FinalLists.{FinalLists, HaveSameLabels}
use Rattle.space_finals.proofs.ModelFinals.{count_same, defined_same, taken_same}
use Rattle.space_heap.specs.Objects.{object_of}
use Rattle.space_collector.proofs.ToldLines.{text_of-append, prefix_after, prefix_longer}
use Rattle.space_engine.specs.Answered.{IsLawfulAnswer, IsWritten, IsWrittenInPart}
use Rattle.space_engine.specs.Counting.{no_counts, sum_of_counts, counts_of}
use Rattle.space_engine.specs.Stands.{Holds, Represents}
use Rattle.space_engine.specs.Steps.{Answers}
use Rattle.space_engine.specs.Views.{View, with_finals, with_queue}
use Rattle.space_engine.specs.Words.{named_address}
use Rattle.space_engine.proofs.OperandObjects.{operand_at}
use Rattle.space_engine.proofs.OutputLists.{AreSpelled-append}
use Rattle.space_engine.proofs.Stepping.{outputs_text, outputs_counts, outputs_lawful}
use Rattle.space_engine.proofs.WordResults.{refused_name}

module _ (v : View) (s : State) (h : Holds v s) where
  -- other finalizers are defined
  after_finals_replaced : (lists : FinalLists) (finals : List (ℕ × List ℕ)) → HaveSameLabels lists.finals finals → lists.queue ≡ v.finals.queue →
      Represents (with_finals v lists) (finals_replaced s finals)
  after_finals_replaced lists finals same waits = record {
    heap = h.represents.heap;
    generations = h.represents.generations;
    colours = h.represents.colours;
    roots = h.represents.roots;
    stack = h.represents.stack;
    ids = h.represents.ids;
    weak = h.represents.weak;
    finals = record { defined = same; waiting = waits ∙ h.represents.finals.waiting };
  }

  -- other finalizers wait
  pub after_queue_replaced : (queue : List (ℕ × List ℕ)) → Represents (with_queue v queue) (queue_replaced s queue)
  after_queue_replaced queue = record {
    heap = h.represents.heap;
    generations = h.represents.generations;
    colours = h.represents.colours;
    roots = h.represents.roots;
    stack = h.represents.stack;
    ids = h.represents.ids;
    weak = h.represents.weak;
    finals = record { defined = h.represents.finals.defined; waiting = refl };
  }

  -- `final`

  final_named : (object : Operand) (label : List ℕ) (name : ℕ) (lists : FinalLists) → and_then (operand_value s object) object_in ≡ Ok name →
      HaveSameLabels lists.finals (v.finals.finals ++ (name, label) ∷ []) → lists.queue ≡ v.finals.queue →
      Answers s (with_finals v lists) (Final object label) Done
  final_named object label name lists is same waits = record {
    state = finals_replaced s (s.tables.finals ++ (name, label) ∷ []);
    represents = after_finals_replaced lists _ (defined_same lists.finals v.finals.finals s.tables.finals name label same h.represents.finals.defined) waits;
    replies = rw is (inl (refl, refl));
  }

  pub final_done : (new : View) (object : Operand) (label : List ℕ) (address name : ℕ) →
      Ok address ≡ named_address s.heap.place (and_then (operand_value s object) object_in) → name ≡ (object_of v.heap address).name →
      HaveSameLabels new.finals.finals (v.finals.finals ++ (name, label) ∷ []) → new.finals.queue ≡ v.finals.queue → new ≡ with_finals v new.finals →
      Answers s new (Final object label) Done
  final_done new object label address name a n same waits rest =
      subst (λ (w : View). Answers s w (Final object label) Done) (sym rest)
      (final_named object label name new.finals ((operand_at v s h object address a).is ∙ ap Ok (sym n)) same waits)

  pub final_lacking : (object : Operand) (label : List ℕ) (address : ℕ) →
      Ok address ≡ named_address s.heap.place (and_then (operand_value s object) object_in) → Answers s v (Final object label) NoMemory
  final_lacking object label address a = record {
    state = s;
    represents = h.represents;
    replies = rw (operand_at v s h object address a).is (inr (refl, refl));
  }

  pub final_refused : (object : Operand) (label : List ℕ) (why : Refusal) →
      Err why ≡ named_address s.heap.place (and_then (operand_value s object) object_in) → Answers s v (Final object label) (Refused why)
  final_refused object label why e = record {
    state = s;
    represents = h.represents;
    replies = rw (refused_name s.heap.place (and_then (operand_value s object) object_in) why e) (record { reply_is = refl; unchanged = refl });
  }

  -- `unfinal`

  unfinal_named : (object : Operand) (name count : ℕ) (lists : FinalLists) → and_then (operand_value s object) object_in ≡ Ok name →
      count ≡ length (labels_of v.finals.finals name) → HaveSameLabels lists.finals (without_name v.finals.finals name) →
      lists.queue ≡ v.finals.queue → Answers s (with_finals v lists) (Unfinal object) (Removed count)
  unfinal_named object name count lists is many same waits = record {
    state = finals_replaced s (without_name s.tables.finals name);
    represents = after_finals_replaced lists _ (taken_same lists.finals v.finals.finals s.tables.finals name same h.represents.finals.defined) waits;
    replies = rw is (ap Removed (many ∙ count_same v.finals.finals s.tables.finals name h.represents.finals.defined), refl);
  }

  pub unfinal_done : (new : View) (object : Operand) (address name count : ℕ) →
      Ok address ≡ named_address s.heap.place (and_then (operand_value s object) object_in) → name ≡ (object_of v.heap address).name →
      count ≡ length (labels_of v.finals.finals name) → HaveSameLabels new.finals.finals (without_name v.finals.finals name) →
      new.finals.queue ≡ v.finals.queue → new ≡ with_finals v new.finals → Answers s new (Unfinal object) (Removed count)
  unfinal_done new object address name count a n many same waits rest =
      subst (λ (w : View). Answers s w (Unfinal object) (Removed count)) (sym rest)
      (unfinal_named object name count new.finals ((operand_at v s h object address a).is ∙ ap Ok (sym n)) many same waits)

  pub unfinal_refused : (object : Operand) (why : Refusal) →
      Err why ≡ named_address s.heap.place (and_then (operand_value s object) object_in) → Answers s v (Unfinal object) (Refused why)
  unfinal_refused object why e = record {
    state = s;
    represents = h.represents;
    replies = rw (refused_name s.heap.place (and_then (operand_value s object) object_in) why e) (record { reply_is = refl; unchanged = refl });
  }

-- `run`

none_more : (n : ℕ) → n ≡ n + 0
none_more n = omega arith

-- finalizers that ran are counted
pub counted_ran : (pairs : List (ℕ × List ℕ)) → counts_of (map Told (ran_events pairs)) ≡ record no_counts { finals = length pairs }
counted_ran [] = refl
counted_ran (pair ∷ pairs) = ap (sum_of_counts (record no_counts { finals = 1 })) (counted_ran pairs) ∙ one_more (length pairs)
  where
    one_more : (n : ℕ) → sum_of_counts (record no_counts { finals = 1 }) (record no_counts { finals = n }) ≡ record no_counts { finals = suc n }
    one_more n = ap (λ k. record no_counts { finals = k }) (omega arith)

-- some of a queue ran, and these are left
pub record HasRun (queue rest : List (ℕ × List ℕ)) (ran : ℕ) : Type 0 where
  pub done : List (ℕ × List ℕ)
  pub split : queue ≡ done ++ rest
  pub long : length done ≡ ran
  pub spelled : AreSpelled (map Told (ran_events done))

cut_at : (done rest : List (ℕ × List ℕ)) (count : ℕ) → length done ≤ count → (length done ≡ count) ⊎ (rest ≡ []) →
    (take count (done ++ rest) ≡ done) × (drop count (done ++ rest) ≡ rest)
cut_at [] rest zero most ends = (refl, refl)
cut_at [] rest (suc count) most ends = ⊎_elim
    (λ none. absurd (omega (arith, none)))
    (λ empty. rw empty (refl, refl))
    ends
cut_at (pair ∷ done) rest zero most ends = absurd (omega arith)
cut_at (pair ∷ done) rest (suc count) most ends =
    let cut = cut_at done rest count (omega arith) (⊎_elim (λ same. inl (omega (arith, same))) inr ends) in
    (ap (λ pairs. pair ∷ pairs) cut.0, cut.1)

-- the events of pairs, and then of others
pub told_pairs : (pairs others : List (ℕ × List ℕ)) →
    map Told (ran_events (pairs ++ others)) ≡ map Told (ran_events pairs) ++ map Told (ran_events others)
told_pairs [] others = refl
told_pairs (pair ∷ pairs) others = ap (λ rest. Told (Ran pair.0 pair.1) ∷ rest) (told_pairs pairs others)

-- none ran yet
abbrev pub none_ran : (queue : List (ℕ × List ℕ)) → HasRun queue queue 0
none_ran queue = record { done = []; split = refl; long = refl; spelled = tt }

-- the oldest of those that are left ran too
abbrev pub one_ran : (queue rest later : List (ℕ × List ℕ)) (ran name : ℕ) (label : List ℕ) → HasRun queue rest ran → rest ≡ (name, label) ∷ later →
    IsSpelled (event_pieces (Ran name label)) → HasRun queue later (ran + 1)
one_ran queue rest later ran name label h oldest spelled = record {
  done = h.done ++ (name, label) ∷ [];
  split = h.split ∙ ap (λ rest. h.done ++ rest) oldest ∙ sym (append_assoc h.done ((name, label) ∷ []) later);
  long = length-append h.done ((name, label) ∷ []) ∙ ap (λ n. n + 1) h.long;
  spelled = subst AreSpelled (sym (told_pairs h.done ((name, label) ∷ []))) (AreSpelled-append _ _ h.spelled (spelled, tt));
}

-- where so many ran, or none is left, those that ran are the first so many
pub run_ends : (queue rest : List (ℕ × List ℕ)) (ran count : ℕ) (h : HasRun queue rest ran) → ran ≤ count → (ran ≡ count) ⊎ (rest ≡ []) →
    (take count queue ≡ h.done) × (drop count queue ≡ rest)
run_ends queue rest ran count h most ends =
    let long = h.long in
    let cut = cut_at h.done rest count (omega arith) (⊎_elim (λ same. inl (long ∙ same)) inr ends) in
    (ap (take count) h.split ∙ cut.0, ap (drop count) h.split ∙ cut.1)

-- what that makes of the first so many
module _ (queue rest : List (ℕ × List ℕ)) (ran count : ℕ) (h : HasRun queue rest ran) (most : ran ≤ count) (ends : (ran ≡ count) ⊎ (rest ≡ [])) where
  pub ended_spelled : AreSpelled (map Told (ran_events (take count queue)))
  ended_spelled = subst (λ pairs. AreSpelled (map Told (ran_events pairs))) (sym (run_ends queue rest ran count h most ends).0) h.spelled

  pub ended_told : (before last : Option (List ℕ)) → Appends before last (text_of (map Told (ran_events h.done))) →
      Appends before last (text_of (map Told (ran_events (take count queue))))
  ended_told before last told = subst (λ pairs. Appends before last (text_of (map Told (ran_events pairs)))) (sym (run_ends queue rest ran count h most ends).0) told

  pub ended_ran : ran ≡ length (take count queue)
  ended_ran = sym (ap length (run_ends queue rest ran count h most ends).0 ∙ h.long)

  pub ended_rest : (v w : View) → w ≡ with_queue v rest → w ≡ with_queue v (drop count queue)
  ended_rest v w is = is ∙ ap (with_queue v) (sym (run_ends queue rest ran count h most ends).1)

more_cut : (done rest : List (ℕ × List ℕ)) (count : ℕ) → length done ≤ count →
    (take count (done ++ rest) ≡ done ++ take (count - length done) rest) × (drop count (done ++ rest) ≡ drop (count - length done) rest)
more_cut [] rest count most = let e : count ≡ count - 0 = omega arith in (ap (λ n. take n rest) e, ap (λ n. drop n rest) e)
more_cut (pair ∷ done) rest zero most = absurd (omega arith)
more_cut (pair ∷ done) rest (suc count) most =
    let cut = more_cut done rest count (omega arith) in
    let e : count - length done ≡ suc count - suc (length done) = omega arith in
    (ap (λ pairs. pair ∷ pairs) (cut.0 ∙ ap (λ n. done ++ take n rest) e), cut.1 ∙ ap (λ n. drop n rest) e)

-- so many of what is left are to run, and no more
module _ (queue rest : List (ℕ × List ℕ)) (ran count : ℕ) (h : HasRun queue rest ran) (most : ran ≤ count) where
  first_are : take count queue ≡ h.done ++ take (count - ran) rest
  first_are =
      let long = h.long in
      ap (take count) h.split ∙ (more_cut h.done rest count (omega arith)).0 ∙ ap (λ n. h.done ++ take (count - n) rest) h.long

  pub others_are : drop count queue ≡ drop (count - ran) rest
  others_are =
      let long = h.long in
      ap (drop count) h.split ∙ (more_cut h.done rest count (omega arith)).1 ∙ ap (λ n. drop (count - n) rest) h.long

  first_events : map Told (ran_events (take count queue)) ≡ map Told (ran_events h.done) ++ map Told (ran_events (take (count - ran) rest))
  first_events = ap (λ pairs. map Told (ran_events pairs)) first_are ∙ told_pairs h.done (take (count - ran) rest)

  pub first_spelled : AreSpelled (map Told (ran_events (take (count - ran) rest))) → AreSpelled (map Told (ran_events (take count queue)))
  first_spelled spelled = subst AreSpelled (sym first_events) (AreSpelled-append _ _ h.spelled spelled)

  pub first_cut : (before last : Option (List ℕ)) → AppendsPrefix before last (text_of (map Told (ran_events h.done))) →
      AppendsPrefix before last (text_of (map Told (ran_events (take count queue))))
  first_cut before last prefix =
      subst (AppendsPrefix before last) (sym (ap text_of first_events ∙ text_of-append (map Told (ran_events h.done)) (map Told (ran_events (take (count - ran) rest)))))
      (prefix_longer before last _ _ prefix)

-- the text of what ran, with one more
pub one_text : (done : List (ℕ × List ℕ)) (name : ℕ) (label : List ℕ) →
    text_of (map Told (ran_events (done ++ (name, label) ∷ []))) ≡ text_of (map Told (ran_events done)) ++ line_of_pieces (event_pieces (Ran name label))
one_text done name label =
    ap text_of (told_pairs done ((name, label) ∷ []))
    ∙ text_of-append (map Told (ran_events done)) (map Told (ran_events ((name, label) ∷ [])))
    ∙ ap (λ xs. text_of (map Told (ran_events done)) ++ xs) (append-nil (line_of_pieces (event_pieces (Ran name label))))

module _ (v : View) (count ran : ℕ) (many : ran ≡ length (take count v.finals.queue))
    (spelled : AreSpelled (map Told (ran_events (take count v.finals.queue)))) where
  abbrev events : List Event
  events = ran_events (take count v.finals.queue)

  abbrev after : View
  after = with_queue v (drop count v.finals.queue)

  run_lawful : IsLawfulAnswer v after (Run count) events (RanCount ran)
  run_lawful = record {
    answers = λ s h.
        let waits = h.represents.finals.waiting in
        record {
          state = queue_replaced s (drop count v.finals.queue);
          represents = after_queue_replaced v s h (drop count v.finals.queue);
          effects = record {
            reply = RanCount ran;
            answer_is = refl;
            is = (
              ap (λ queue. ran_events (take count queue)) waits,
              many ∙ ap (λ (queue : List (ℕ × List ℕ)). length (take count queue)) waits,
              ap (λ queue. queue_replaced s (drop count queue)) waits,
            );
          };
        };
    spelled = λ s h. spelled;
  }

  pub run_done : (before middle last : Option (List ℕ)) (ticks : ℕ) → Appends before middle (text_of (map Told events)) →
      IsSpelled (reply_pieces (RanCount ran)) → Appends middle last (line_of_pieces (reply_pieces (RanCount ran))) →
      IsWritten v after (Run count) (record no_counts { finals = ran }) before last ticks ticks
  run_done before middle last ticks told reply written = record {
    outputs = map Told events ++ Replied (RanCount ran) ∷ [];
    lawful = outputs_lawful events (RanCount ran) v after (Run count) run_lawful reply;
    done = λ s h. record {
      counted = ap (λ n. record no_counts { finals = n }) (none_more ran)
          ∙ outputs_counts events (RanCount ran) (record no_counts { finals = ran })
          (counted_ran (take count v.finals.queue) ∙ ap (λ n. record no_counts { finals = n }) (sym many));
      written = subst (Appends before last) (sym (outputs_text events (RanCount ran)))
          (Appends-trans before middle last (text_of (map Told events)) (line_of_pieces (reply_pieces (RanCount ran))) told written);
      ticked = record { events = events; reply = RanCount ran; outputs_are = refl; ticked = refl };
    };
  }

  pub run_reply_cut : (before middle last : Option (List ℕ)) → Appends before middle (text_of (map Told events)) →
      IsSpelled (reply_pieces (RanCount ran)) → AppendsPrefix middle last (line_of_pieces (reply_pieces (RanCount ran))) →
      IsWrittenInPart v after (Run count) before last
  run_reply_cut before middle last told reply prefix = record {
    outputs = map Told events ++ Replied (RanCount ran) ∷ [];
    lawful = outputs_lawful events (RanCount ran) v after (Run count) run_lawful reply;
    prefix = subst (AppendsPrefix before last) (sym (outputs_text events (RanCount ran)))
        (prefix_after before middle last (text_of (map Told events)) (line_of_pieces (reply_pieces (RanCount ran))) told prefix);
  }

  pub run_events_cut : (before last : Option (List ℕ)) → AppendsPrefix before last (text_of (map Told events)) →
      IsSpelled (reply_pieces (RanCount ran)) → IsWrittenInPart v after (Run count) before last
  run_events_cut before last prefix reply = record {
    outputs = map Told events ++ Replied (RanCount ran) ∷ [];
    lawful = outputs_lawful events (RanCount ran) v after (Run count) run_lawful reply;
    prefix = subst (AppendsPrefix before last) (sym (outputs_text events (RanCount ran)))
        (prefix_longer before last (text_of (map Told events)) (line_of_pieces (reply_pieces (RanCount ran))) prefix);
  }

-- as many ran as a number of 64 bits tells, where so many were asked for
pub ran_spelled : (queue : List (ℕ × List ℕ)) (count : ℕ) → count < 2 ^ 64 → IsSpelled (reply_pieces (RanCount (length (take count queue))))
ran_spelled queue count few = (let least = length-take count queue in grind (arith, least), tt)
