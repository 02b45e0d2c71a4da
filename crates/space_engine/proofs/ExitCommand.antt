-- The command `exit`: all that was done and written comes to lawful outputs, which tell how many finalizers ran.
use Rattle.std.proofs.Common.{◌≡◌, ◌+◌, ◌≤◌, ℕ, suc, List, [], ◌∷◌, ◌++◌, length, map, refl, sym, ap, ◌∙◌, subst, arith, Option}
use Rattle.std.specs.Io.KnownBytes.{Appends}
use Rattle.std.proofs.KnownBytes.{Appends-trans}
use Rattle.std.proofs.lemmas.List.{map-append}
use Rattle.space_io.specs.Sinks.{AppendsPrefix}
use Rattle.space_model.specs.declared.command.Command.TheVariants.{Exit}
use Rattle.space_model.specs.declared.event.Event.{Event}
use Rattle.space_model.specs.declared.reply.Reply.{Reply}
use Rattle.space_model.specs.declared.reply.Reply.TheVariants.{ExitRan}
use Rattle.space_model.specs.FinalCommands.{ran_events}
use Rattle.space_model.specs.Outputs.{Output, Told, Replied}
use Rattle.space_model.specs.Spelling.{IsSpelled}
use Rattle.space_model.specs.Texts.{AreSpelled, text_of, reply_pieces, line_of_pieces}
use Rattle.space_finals.specs.FinalLists.{FinalLists}
use Rattle.space_collector.proofs.ToldLines.{text_of-append, prefix_after, prefix_longer}
use Rattle.space_engine.specs.Answered.{IsLawfulAnswer, AreLawful, IsWritten, IsWrittenInPart}
use Rattle.space_engine.specs.Counting.{no_counts, counts_of, sum_of_counts}
use Rattle.space_engine.specs.HeapCollections.{IsEmptied, IsTickedExit, AreTold, AreCut}
use Rattle.space_engine.specs.Stands.{Represents}
use Rattle.space_engine.specs.Turns.{CanAnswer}
use Rattle.space_engine.specs.Views.{View, with_queue}
use Rattle.space_engine.proofs.ExitStates.{exits_to, exit_spelled}
use Rattle.space_engine.proofs.OutputLists.{counts_of-append, spelled_both}
use Rattle.space_engine.proofs.Stepping.{outputs_text, outputs_counts, outputs_lawful}

-- as many finalizers count as ran
counted_ran : (pairs : List (ℕ × List ℕ)) → counts_of (map Told (ran_events pairs)) ≡ record no_counts { finals = length pairs }
counted_ran [] = refl
counted_ran (pair ∷ pairs) = ap (sum_of_counts (record no_counts { finals = 1 })) (counted_ran pairs) ∙ one_more (length pairs)
  where
    one_more : (n : ℕ) → sum_of_counts (record no_counts { finals = 1 }) (record no_counts { finals = n }) ≡ record no_counts { finals = suc n }
    one_more n = ap (λ k. record no_counts { finals = k }) (omega arith)

none_more : (n : ℕ) → n + 0 ≡ n
none_more n = omega arith

none_before : (n : ℕ) → 0 + n ≡ n
none_before n = omega arith

-- after the lines of what is gone, which tell how many that is
counted_all : (events : List Event) (pairs : List (ℕ × List ℕ)) (gone moves : ℕ) →
    counts_of (map Told events) ≡ record no_counts { gone = gone; moves = moves } →
    counts_of (map Told (events ++ ran_events pairs)) ≡ record no_counts { gone = gone; moves = moves; finals = length pairs }
counted_all events pairs gone moves counted =
    ap counts_of (map-append Told events (ran_events pairs))
    ∙ counts_of-append (map Told events) (map Told (ran_events pairs))
    ∙ ap (λ c. sum_of_counts c (counts_of (map Told (ran_events pairs)))) counted
    ∙ ap (sum_of_counts (record no_counts { gone = gone; moves = moves })) (counted_ran pairs)
    ∙ (λ i. record no_counts { gone = none_more gone i; moves = none_more moves i; finals = none_before (length pairs) i })

-- and the reply counts for nothing
counted_reply : (gone moves finals : ℕ) →
    sum_of_counts (record no_counts { gone = gone; moves = moves; finals = finals }) no_counts
    ≡ record no_counts { gone = gone; moves = moves; finals = finals }
counted_reply gone moves finals = λ i. record no_counts { gone = none_more gone i; moves = none_more moves i; finals = none_more finals i }

-- no more wait than there are
pub few_wait : (inner lists : FinalLists) (waiting : ℕ) → inner ≡ lists → waiting ≡ length inner.finals + length inner.queue →
    length lists.queue ≤ waiting
few_wait inner lists waiting same many = subst (λ (lists : FinalLists). length lists.queue ≤ waiting) same (omega (arith, many))

-- all was emptied, which left the space `mid`, and then no finalizer waited any more
module _ (v mid new : View) (ran : new ≡ with_queue mid [])
    (able : CanAnswer v.heap) (spelled : AreSpelled (map Told (ran_events mid.finals.queue))) where
  abbrev lines : List Event
  lines = ran_events mid.finals.queue

  abbrev reply : Reply
  reply = ExitRan (length mid.finals.queue)

  abbrev Exits : ℕ → List Event → Type 0
  Exits ended events = IsEmptied v mid ended events

  lawful : (ended : ℕ) (events : List Event) → Exits ended events → IsLawfulAnswer v new Exit (events ++ lines) reply
  lawful ended events e = record {
    answers = λ s h.
        let to = exits_to v s h mid ended events e in
        record {
          state = to.state;
          represents = subst (λ (w : View). Represents w to.state) (sym ran) to.represents;
          effects = record { reply = reply; answer_is = refl; is = to.exits };
        };
    spelled = λ s h. spelled_both events lines (exit_spelled v s h mid ended events e able.born) spelled;
  }

  -- the lines of what is gone, and then those of the finalizers
  both_texts : (events : List Event) → text_of (map Told (events ++ lines)) ≡ text_of (map Told events) ++ text_of (map Told lines)
  both_texts events = ap text_of (map-append Told events lines) ∙ text_of-append (map Told events) (map Told lines)

  module _ (told : IsSpelled (reply_pieces reply)) where
    abbrev outputs : List Event → List Output
    outputs events = map Told (events ++ lines) ++ Replied reply ∷ []

    all_lawful : (ended : ℕ) (events : List Event) → Exits ended events → AreLawful v new Exit (outputs events)
    all_lawful ended events e = outputs_lawful (events ++ lines) reply v new Exit (lawful ended events e) told

    -- the lines of what is gone were cut off
    pub exit_cut_off : (before after : Option (List ℕ)) → AreCut (λ events. (ended : ℕ) × Exits ended events) before after →
        IsWrittenInPart v new Exit before after
    exit_cut_off before after cut = record {
      outputs = outputs cut.events;
      lawful = all_lawful cut.are.0 cut.events cut.are.1;
      prefix = subst (AppendsPrefix before after) (sym (outputs_text (cut.events ++ lines) reply))
          (prefix_longer before after (text_of (map Told (cut.events ++ lines))) (line_of_pieces (reply_pieces reply))
          (subst (AppendsPrefix before after) (sym (both_texts cut.events))
          (prefix_longer before after (text_of (map Told cut.events)) (text_of (map Told lines)) cut.prefix)));
    }

    module _ (gone moves ticks ticked : ℕ) (before middle : Option (List ℕ))
        (t : AreTold (IsTickedExit v mid ticks ticked) gone moves before middle) where
      t_lawful : AreLawful v new Exit (outputs t.events)
      t_lawful = all_lawful t.are.ended t.events t.are.exits

      -- those of the finalizers were
      pub running_cut_off : (after : Option (List ℕ)) → AppendsPrefix middle after (text_of (map Told lines)) →
          IsWrittenInPart v new Exit before after
      running_cut_off after prefix = record {
        outputs = outputs t.events;
        lawful = t_lawful;
        prefix = subst (AppendsPrefix before after) (sym (outputs_text (t.events ++ lines) reply))
            (prefix_longer before after (text_of (map Told (t.events ++ lines))) (line_of_pieces (reply_pieces reply))
            (subst (AppendsPrefix before after) (sym (both_texts t.events))
            (prefix_after before middle after (text_of (map Told t.events)) (text_of (map Told lines)) t.written prefix)));
      }

      module _ (late after : Option (List ℕ)) (ran_told : Appends middle late (text_of (map Told lines))) where
        all_told : Appends before late (text_of (map Told (t.events ++ lines)))
        all_told = subst (Appends before late) (sym (both_texts t.events))
            (Appends-trans before middle late (text_of (map Told t.events)) (text_of (map Told lines)) t.written ran_told)

        -- the reply was
        pub reply_cut_off : AppendsPrefix late after (line_of_pieces (reply_pieces reply)) → IsWrittenInPart v new Exit before after
        reply_cut_off prefix = record {
          outputs = outputs t.events;
          lawful = t_lawful;
          prefix = subst (AppendsPrefix before after) (sym (outputs_text (t.events ++ lines) reply))
              (prefix_after before late after (text_of (map Told (t.events ++ lines))) (line_of_pieces (reply_pieces reply)) all_told prefix);
        }

        -- or all of it was written
        pub exit_written : Appends late after (line_of_pieces (reply_pieces reply)) →
            IsWritten v new Exit (record no_counts { gone = gone; moves = moves; finals = length mid.finals.queue }) before after ticks ticked
        exit_written written = record {
          outputs = outputs t.events;
          lawful = t_lawful;
          done = λ s h.
              let to = exits_to v s h mid t.are.ended t.events t.are.exits in
              record {
                counted = sym (counted_reply gone moves (length mid.finals.queue))
                    ∙ outputs_counts (t.events ++ lines) reply _ (counted_all t.events mid.finals.queue gone moves t.counted);
                written = subst (Appends before after) (sym (outputs_text (t.events ++ lines) reply))
                    (Appends-trans before late after (text_of (map Told (t.events ++ lines))) (line_of_pieces (reply_pieces reply)) all_told written);
                ticked = record {
                  events = t.events ++ lines;
                  reply = reply;
                  outputs_are = refl;
                  ticked = record {
                    ended = t.are.ended;
                    ended_are = to.ended_are;
                    ticked = t.are.rose ∙ ap (λ n. ticks + t.are.ended + n) to.no_scans;
                  };
                };
              };
        }
