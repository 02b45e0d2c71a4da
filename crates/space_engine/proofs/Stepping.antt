-- A step, from the answer and what was written.
use Rattle.std.proofs.Common.{◌≡◌, List, [], ◌∷◌, ◌++◌, map, ℕ, refl, sym, ap, ◌∙◌, subst, Option}
use Rattle.std.specs.Io.KnownBytes.{Appends}
use Rattle.std.proofs.KnownBytes.{Appends-nil, Appends-trans}
use Rattle.space_io.specs.Sinks.{AppendsPrefix}
use Rattle.std.proofs.lemmas.List.{append-nil}
use Rattle.space_model.specs.declared.command.Command.{Command}
use Rattle.space_model.specs.declared.command.Command.TheVariants.{New, Run, Minor, Gc, Major, Finish, Compact, Move, Dump, Peek, Exit}
use Rattle.space_model.specs.declared.event.Event.{Event}
use Rattle.space_model.specs.declared.reply.Reply.{Reply}
use Rattle.space_model.specs.declared.reply.Reply.TheVariants.{Made, Full, NoMemory, Done, Pushed, Read, Truth, Number, GoneId, Removed, RanCount}
use Rattle.space_model.specs.declared.reply.Reply.TheVariants.{Scanned, Marked, SweepCount, MoveCount, FixCount, StatLine, Dumped, ExitRan, Refused}
use Rattle.space_model.specs.Outputs.{Output, Told, Replied}
use Rattle.space_model.specs.Given.{IsGiven}
use Rattle.space_model.specs.Spelling.{IsSpelled}
use Rattle.space_model.specs.State.{State}
use Rattle.space_model.specs.Texts.{text_of, reply_pieces, line_of_pieces}
use Rattle.space_model.proofs.Replying.{Effects-replied}
use Rattle.space_model.proofs.SoundKept.{lawful_sound}
use Rattle.space_engine.specs.Answered.{IsLawfulAnswer, IsAnswered, IsCutOff, AreLawful, IsWritten, IsWrittenInPart}
use Rattle.space_engine.specs.declared.counts.Counts.{Counts}
use Rattle.space_engine.specs.Counting.{no_counts, reply_counts, sum_of_counts, counts_of}
use Rattle.space_engine.specs.Stands.{Holds}
use Rattle.space_engine.specs.Steps.{IsPlain, IsEventful, IsQuiet, Answers, AnswersWith, AreDone, LawfulSteps}
use Rattle.space_engine.specs.Ticks.{IsReplyTicked, IsTicked, AreReplyTicked, AreTicked}
use Rattle.space_engine.specs.Views.{View, SpaceView}
use Rattle.space_engine.proofs.OutputLists.{counts_of-append, AreSpelled-append}
use Rattle.space_collector.proofs.ToldLines.{text_of-append, prefix_after, prefix_longer}

-- a command that gives one reply, after its events or with none
pub eventful_plain : (command : Command) → IsEventful command → IsPlain command
eventful_plain (Run count) eventful = absurd eventful
eventful_plain Dump eventful = absurd eventful
eventful_plain (Peek object) eventful = absurd eventful
eventful_plain Exit eventful = absurd eventful
eventful_plain command eventful = tt

pub quiet_plain : (command : Command) → IsQuiet command → IsPlain command
quiet_plain (Run count) quiet = absurd quiet
quiet_plain Dump quiet = absurd quiet
quiet_plain (Peek object) quiet = absurd quiet
quiet_plain Exit quiet = absurd quiet
quiet_plain command quiet = tt

-- a command that told no events
pub answered_silently : (old new : View) (command : Command) (reply : Reply) (known : Option (List ℕ)) (ticks ticked : ℕ) →
    ((s : State) → Holds old s → AnswersWith s new command [] reply) → ((s : State) → Holds old s → IsTicked s command [] reply ticks ticked) →
    IsAnswered old new command reply 0 0 known known ticks ticked
answered_silently old new command reply known ticks ticked answer rose = record {
  events = [];
  lawful = record { answers = answer; spelled = λ s h. tt };
  counted = refl;
  written = Appends-nil known;
  ticks_are = rose;
}

-- a command that tells none at all

reply_ticked : (s : State) (command : Command) (reply : Reply) (ticks ticked : ℕ) → IsQuiet command → IsReplyTicked command reply ticks ticked →
    IsTicked s command [] reply ticks ticked
reply_ticked s (New root fields guard style) reply ticks ticked quiet rose = absurd quiet
reply_ticked s Minor reply ticks ticked quiet rose = absurd quiet
reply_ticked s Gc reply ticks ticked quiet rose = absurd quiet
reply_ticked s Major reply ticks ticked quiet rose = absurd quiet
reply_ticked s Finish reply ticks ticked quiet rose = absurd quiet
reply_ticked s Compact reply ticks ticked quiet rose = absurd quiet
reply_ticked s (Move count) reply ticks ticked quiet rose = absurd quiet
reply_ticked s Exit reply ticks ticked quiet rose = absurd quiet
reply_ticked s command reply ticks ticked quiet rose = rose

pub answered_quietly : (old new : View) (command : Command) (reply : Reply) (known : Option (List ℕ)) (ticks ticked : ℕ) → IsQuiet command →
    ((s : State) → Holds old s → Answers s new command reply) → IsReplyTicked command reply ticks ticked →
    IsAnswered old new command reply 0 0 known known ticks ticked
answered_quietly old new command reply known ticks ticked quiet answer rose =
    answered_silently old new command reply known ticks ticked
    (λ s h. let a = answer s h in record { state = a.state; represents = a.represents; effects = Effects-replied s command reply a.state a.replies })
    (λ s h. reply_ticked s command reply ticks ticked quiet rose)

-- the counts of an only reply are its own
counts_of_one : (reply : Reply) → counts_of (Replied reply ∷ []) ≡ reply_counts reply
counts_of_one (Made name address) = refl
counts_of_one Full = refl
counts_of_one NoMemory = refl
counts_of_one Done = refl
counts_of_one (Pushed word names) = refl
counts_of_one (Read value) = refl
counts_of_one (Truth told) = refl
counts_of_one (Number number) = refl
counts_of_one GoneId = refl
counts_of_one (Removed count) = refl
counts_of_one (RanCount count) = refl
counts_of_one (Scanned count) = refl
counts_of_one (MoveCount moved done) = refl
counts_of_one (FixCount fixed done) = refl
counts_of_one (Marked scans grey) = refl
counts_of_one (SweepCount freed left) = refl
counts_of_one (StatLine stat) = refl
counts_of_one (Dumped count) = refl
counts_of_one (ExitRan count) = refl
counts_of_one (Refused why) = refl

module _ (events : List Event) (reply : Reply) where
  abbrev outputs : List Output
  outputs = map Told events ++ Replied reply ∷ []

  -- the lines of the events, and then that of the reply
  pub outputs_text : text_of (map Told events ++ Replied reply ∷ []) ≡ text_of (map Told events) ++ line_of_pieces (reply_pieces reply)
  outputs_text =
      text_of-append (map Told events) (Replied reply ∷ [])
      ∙ ap (λ xs. text_of (map Told events) ++ xs) (append-nil (line_of_pieces (reply_pieces reply)))

  -- and what they count
  pub outputs_counts : (counts : Counts) → counts_of (map Told events) ≡ counts → sum_of_counts counts (reply_counts reply) ≡ counts_of outputs
  outputs_counts counts counted =
      sym (ap (sum_of_counts counts) (counts_of_one reply))
      ∙ ap (λ c. sum_of_counts c (counts_of (Replied reply ∷ []))) (sym counted)
      ∙ sym (counts_of-append (map Told events) (Replied reply ∷ []))

  -- they are lawful where the answer is
  pub outputs_lawful : (old new : View) (command : Command) → IsLawfulAnswer old new command events reply → IsSpelled (reply_pieces reply) →
      AreLawful old new command outputs
  outputs_lawful old new command answer spelled = record {
    gives = λ s h. let a = answer.answers s h in record {
      state = a.state;
      represents = a.represents;
      lawful = record { events = events; answer = Replied reply ∷ []; outputs_are = refl; effects = a.effects };
    };
    spelled = λ s h. AreSpelled-append (map Told events) (Replied reply ∷ []) (answer.spelled s h) (spelled, tt);
  }

-- where events and one reply are the outputs, the count rises as they tell
plain_ticked : (s : State) (command : Command) (lines : List Output) (ticks ticked : ℕ) → IsPlain command →
    AreReplyTicked s command lines ticks ticked → AreTicked s command lines ticks ticked
plain_ticked s Dump lines ticks ticked plain rose = absurd plain
plain_ticked s (Peek object) lines ticks ticked plain rose = absurd plain
plain_ticked s command lines ticks ticked plain rose = rose

-- a command that was answered, and its reply after that
module _ (old new : View) (command : Command) (reply : Reply) where
  pub written_whole : (gone moves : ℕ) (before middle after : Option (List ℕ)) (ticks ticked : ℕ) → IsPlain command →
      IsAnswered old new command reply gone moves before middle ticks ticked → IsSpelled (reply_pieces reply) →
      Appends middle after (line_of_pieces (reply_pieces reply)) →
      IsWritten old new command (sum_of_counts (record no_counts { gone = gone; moves = moves }) (reply_counts reply)) before after ticks ticked
  written_whole gone moves before middle after ticks ticked plain a spelled written = record {
    outputs = outputs a.events reply;
    lawful = outputs_lawful a.events reply old new command a.lawful spelled;
    done = λ s h. record {
      counted = outputs_counts a.events reply (record no_counts { gone = gone; moves = moves }) a.counted;
      written = subst (Appends before after) (sym (outputs_text a.events reply))
          (Appends-trans before middle after (text_of (map Told a.events)) (line_of_pieces (reply_pieces reply)) a.written written);
      ticked = plain_ticked s command (outputs a.events reply) ticks ticked plain
          (record { events = a.events; reply = reply; outputs_are = refl; ticked = a.ticks_are s h });
    };
  }

  -- the reply was cut off
  pub reply_cut : (gone moves : ℕ) (before middle after : Option (List ℕ)) (ticks ticked : ℕ) →
      IsAnswered old new command reply gone moves before middle ticks ticked → IsSpelled (reply_pieces reply) →
      AppendsPrefix middle after (line_of_pieces (reply_pieces reply)) → IsWrittenInPart old new command before after
  reply_cut gone moves before middle after ticks ticked a spelled prefix = record {
    outputs = outputs a.events reply;
    lawful = outputs_lawful a.events reply old new command a.lawful spelled;
    prefix = subst (AppendsPrefix before after) (sym (outputs_text a.events reply))
        (prefix_after before middle after (text_of (map Told a.events)) (line_of_pieces (reply_pieces reply)) a.written prefix);
  }

-- the events were cut off
pub events_cut : (old new : View) (command : Command) (before after : Option (List ℕ)) → IsCutOff old new command before after →
    IsWrittenInPart old new command before after
events_cut old new command before after a = record {
  outputs = outputs a.events a.reply;
  lawful = outputs_lawful a.events a.reply old new command a.lawful a.reply_spelled;
  prefix = subst (AppendsPrefix before after) (sym (outputs_text a.events a.reply))
      (prefix_longer before after (text_of (map Told a.events)) (line_of_pieces (reply_pieces a.reply)) a.prefix);
}

-- the space's step, from that of its parts
module _ (old new : SpaceView) (command : Command) (can : IsGiven command) where
  steps : (outputs : List Output) → AreLawful old.parts new.parts command outputs → (IsSo : State → List Output → Type 0) →
      ((s : State) → Holds old.parts s → IsSo s outputs) → LawfulSteps old new command IsSo
  steps outputs lawful IsSo so s h = let a = lawful.gives s h in record {
    outputs = outputs;
    state = a.state;
    stands = record { represents = a.represents; sound = lawful_sound s a.state command outputs can a.lawful h.sound };
    lawful = a.lawful;
    spelled = lawful.spelled s h;
    so = so s h;
  }

  pub steps_done : (counts : Counts) (before after : Option (List ℕ)) (ticks ticked : ℕ) →
      IsWritten old.parts new.parts command counts before after ticks ticked →
      LawfulSteps old new command (λ s. AreDone s command counts before after ticks ticked)
  steps_done counts before after ticks ticked w = steps w.outputs w.lawful _ w.done

  pub steps_fault : (before after : Option (List ℕ)) → IsWrittenInPart old.parts new.parts command before after →
      LawfulSteps old new command (λ s outputs. AppendsPrefix before after (text_of outputs))
  steps_fault before after w = steps w.outputs w.lawful _ (λ s h. w.prefix)
