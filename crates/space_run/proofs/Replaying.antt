-- A replay goes on by one line, and how it ends.
use Rattle.std.proofs.Common.{◌≡◌, ◌⊎◌, ◌+◌, ◌≤◌, ◌<◌, ◌^◌, ℕ, List, [], ◌∷◌, ◌++◌, Option, Some, None, refl, ap, ◌∙◌, sym, subst, Result, Ok, Err, is_err}
use Rattle.std.proofs.Common.{IfOk, OnOk, OnErr, false, true, IsTrue, IsFalse, Bool, length, length-append, arith, inl, inr, ⊎_elim}
use mathlib.Core.List.{append_assoc}
use Rattle.std.proofs.lemmas.List.{append-nil}
use Rattle.std.specs.Io.KnownBytes.{Appends, Keeps}
use Rattle.std.proofs.KnownBytes.{Appends-nil, Appends-trans, Appends-kept, Consumes-nil, Consumes-trans}
use Rattle.std.proofs.lemmas.List.{take_all}
use Rattle.space_io.proofs.Cuts.{whole_line_is_next, HasNoLf-begins}
use Rattle.space_io.proofs.Takings.{TellsEnd-trans}
use Rattle.space_io.specs.Causes.{Rose, TellsEnd}
use Rattle.space_io.specs.Reading.{Reading, Takes, Gives, IsUnfinished, at_start}
use Rattle.space_io.specs.Next.{IsEnd}
use Rattle.space_io.specs.Sinks.{AppendsPrefix}
use Rattle.space_model.specs.declared.command.Command.{Command}
use Rattle.space_model.specs.Grammar.{IsReading}
use Rattle.space_model.specs.Lawful.{Lawful}
use Rattle.space_model.specs.Lines.{lines_of, HasNoLf, most_line_bytes}
use Rattle.space_model.specs.Outputs.{Output}
use Rattle.space_model.specs.State.{State, opening}
use Rattle.space_model.specs.Texts.{text_of, AreSpelled, line_of_pieces, malformed_pieces}
use Rattle.space_model.proofs.RunLemmas.{LawfulAll-more, AreCommands-more, text_of-append, AreSpelled-append}
use Rattle.space_run.specs.declared.end.End.{End}
use Rattle.space_run.specs.declared.end.End.TheVariants.{Complete, Malformed, ReadFault, WriteFault, InputLimit}
use Rattle.space_run.specs.Ends.{EndsAs}
use Rattle.space_run.specs.Progress.{HasReplayed}
use Rattle.space_run.specs.Replays.{AreAnswered, AreFirstLines, Replays, StartsBad, StopsAtLine, IsCutOff, HasFailedRead, HasFailedWrite, HasReachedLimit}
use Rattle.space_run.specs.Replays.{IsMalformed}
use Rattle.space_engine.specs.declared.counts.Counts.{Counts}
use Rattle.space_engine.specs.declared.space.StepFault.{StepFault}
use Rattle.space_engine.specs.Stands.{Stands}
use Rattle.space_engine.specs.Steps.{AreDone, LawfulSteps}
use Rattle.space_engine.specs.Views.{SpaceView}
use Rattle.space_collector.proofs.ToldLines.{prefix_after}

-- before the first line
pub started : (r w : Option (List ℕ)) (n limit : ℕ) (view : SpaceView) → Stands view (opening limit) → HasReplayed limit r r n n w w at_start view
started r w n limit view stands = record {
  bytes = [];
  taken = Consumes-nil r;
  lines = [];
  first = λ more h. refl;
  numbered = refl;
  at_end = λ h. cc;
  told = inl (refl, refl);
  counted = refl;
  outputs = [];
  answered = record { commands = []; read = refl; state = opening limit; lawful = (refl, refl); spelled = tt };
  stands = stands;
  written = Appends-nil w;
}

-- more bytes were taken
pub after_taking : (limit : ℕ) (r0 r r' w0 w : Option (List ℕ)) (n0 n n' : ℕ) (old mid : Reading) (view : SpaceView) →
    HasReplayed limit r0 r n0 n w0 w old view → Takes r r' n n' old mid → HasReplayed limit r0 r' n0 n' w0 w mid view
after_taking limit r0 r r' w0 w n0 n n' old mid view h takes = record {
  bytes = h.bytes ++ takes.bytes;
  taken = Consumes-trans r0 r r' h.bytes takes.bytes h.taken takes.consumed;
  lines = h.lines;
  first = λ more ended.
      rw (append_assoc h.bytes takes.bytes more, takes.pending, append_assoc old.pending takes.bytes more)
      (h.first (takes.bytes ++ more) (λ told. let stays = takes.stays told in rw stays.0 (ended stays.1)));
  numbered = takes.number ∙ h.numbered;
  at_end = λ ended. takes.at_end h.at_end ended;
  told = TellsEnd-trans n0 n n' false old.ended mid.ended h.told takes.told;
  counted = omega (arith, takes.taken, h.counted, length-append h.bytes takes.bytes);
  outputs = h.outputs;
  answered = h.answered;
  stands = h.stands;
  written = h.written;
}

-- a call that isn't an error kept its promise
kept_promise : {T E : Type 0} {P : T → Type 0} (result : Result T E) → is_err result ≡ false → IfOk result P → (x : T) × P x
kept_promise (Ok x) e h = (x, h)
kept_promise (Err x) e h = cc

-- and what a call that isn't an error leaves as it was
pub kept_calm : {T E : Type 0} {P : Type 0} (result : Result T E) → is_err result ≡ false → OnOk result P → P
kept_calm (Ok x) e h = h
kept_calm (Err x) e h = cc

-- one more line is answered
abbrev one_more : (limit : ℕ) (lines : List (List ℕ)) (line : List ℕ) (outputs others : List Output) (state : State) (command : Command)
    (answered : AreAnswered limit lines outputs) → length line ≤ most_line_bytes → IsReading line (Some command) →
    Lawful answered.state command others state → AreSpelled others → AreAnswered limit (lines ++ line ∷ []) (outputs ++ others)
one_more limit lines line outputs others state command answered short reading lawful spelled = record {
  commands = answered.commands ++ command ∷ [];
  read = AreCommands-more lines line answered.commands (Some command) answered.read short reading;
  state = state;
  lawful = LawfulAll-more (opening limit) answered.state state answered.commands command outputs others answered.lawful lawful;
  spelled = AreSpelled-append outputs others answered.spelled spelled;
}

-- the lines go on by the one that is given
first_more : (mid new : Reading) (bytes : List ℕ) (lines : List (List ℕ)) → AreFirstLines mid.ended bytes lines mid.pending → Gives mid new →
    AreFirstLines new.ended bytes (lines ++ new.line ∷ []) new.pending
first_more mid new bytes lines first gives = λ more ended.
    first more (λ told. ended (rw gives.ended told))
    ∙ ap (λ xs. lines ++ xs) (whole_line_is_next new.ended mid.pending new.line new.pending gives.whole more ended)
    ∙ sym (append_assoc lines (new.line ∷ []) (lines_of (new.pending ++ more)))

-- the next line was given, and its command answered
pub after_line : (limit : ℕ) (r0 r w0 w w' : Option (List ℕ)) (n0 n : ℕ) (mid new : Reading) (old_view view : SpaceView) (command : Command)
    (ticks ticked : ℕ) → HasReplayed limit r0 r n0 n w0 w mid old_view → Gives mid new →
    IsReading new.line (Some command) → (result : Result Counts StepFault) → is_err result ≡ false →
    IfOk result (λ counts. LawfulSteps old_view view command (λ s. AreDone s command counts w w' ticks ticked)) → HasReplayed limit r0 r n0 n w0 w' new view
after_line limit r0 r w0 w w' n0 n mid new old_view view command ticks ticked h gives reading result no_err steps =
    let step = (kept_promise result no_err steps).1 h.answered.state h.stands in
    record {
      bytes = h.bytes;
      taken = h.taken;
      lines = h.lines ++ new.line ∷ [];
      first = first_more mid new h.bytes h.lines h.first gives;
      numbered = omega (arith, gives.number, h.numbered, length-append h.lines (new.line ∷ []));
      at_end = λ ended. h.at_end (rw gives.ended at ended);
      told = rw gives.ended h.told;
      counted = gives.taken ∙ h.counted;
      outputs = h.outputs ++ step.outputs;
      answered = one_more limit h.lines new.line h.outputs step.outputs step.state command h.answered gives.short reading step.lawful step.spelled;
      stands = step.stands;
      written = rw text_of-append (Appends-trans w0 w w' _ _ h.written step.so.written);
    }

-- the next line was given, and it is blank
pub after_blank : (limit : ℕ) (r0 r w0 w : Option (List ℕ)) (n0 n : ℕ) (mid new : Reading) (view : SpaceView) → HasReplayed limit r0 r n0 n w0 w mid view →
    Gives mid new →
    IsReading new.line None → HasReplayed limit r0 r n0 n w0 w new view
after_blank limit r0 r w0 w n0 n mid new view h gives reading = record {
  bytes = h.bytes;
  taken = h.taken;
  lines = h.lines ++ new.line ∷ [];
  first = first_more mid new h.bytes h.lines h.first gives;
  numbered = omega (arith, gives.number, h.numbered, length-append h.lines (new.line ∷ []));
  at_end = λ ended. h.at_end (rw gives.ended at ended);
  told = rw gives.ended h.told;
  counted = gives.taken ∙ h.counted;
  outputs = h.outputs;
  answered = record {
    commands = h.answered.commands;
    read = let more = AreCommands-more h.lines new.line h.answered.commands None h.answered.read gives.short reading in rw append-nil at more;
    state = h.answered.state;
    lawful = h.answered.lawful;
    spelled = h.answered.spelled;
  };
  stands = h.stands;
  written = h.written;
}

-- what was written is kept, as by a flush
pub after_flush : (limit : ℕ) (r0 r w0 w w' : Option (List ℕ)) (n0 n : ℕ) (reading : Reading) (view : SpaceView) →
    HasReplayed limit r0 r n0 n w0 w reading view → Keeps w w' → HasReplayed limit r0 r n0 n w0 w' reading view
after_flush limit r0 r w0 w w' n0 n reading view h keeps = record {
  bytes = h.bytes;
  taken = h.taken;
  lines = h.lines;
  first = h.first;
  numbered = h.numbered;
  at_end = h.at_end;
  told = h.told;
  counted = h.counted;
  outputs = h.outputs;
  answered = h.answered;
  stands = h.stands;
  written = Appends-kept w0 w w' (text_of h.outputs) h.written keeps;
}

never_both : (b : Bool) → IsFalse b → IsTrue b → ⊥
never_both b is_false is_true = let both : false ≡ true = sym is_false ∙ is_true in cc

-- an end that was told is counted
told_end : (m n : ℕ) (ended : Bool) → TellsEnd m n false ended → IsTrue ended → Rose m n
told_end m n ended told is = ⊎_elim (λ (same, stays). absurd (let both : false ≡ true = sym stays ∙ is in cc)) (λ (rose, not, now). rose) told

-- an end that wasn't told isn't
untold_end : (m n : ℕ) (ended : Bool) → TellsEnd m n false ended → IsFalse ended → n ≡ m
untold_end m n ended told not = ⊎_elim (λ (same, stays). same) (λ (rose, was, now). absurd (never_both ended not now)) told

-- the end was reached
pub at_the_end : (limit : ℕ) (r0 r w0 w : Option (List ℕ)) (n0 n : ℕ) (mid new : Reading) (view : SpaceView) → HasReplayed limit r0 r n0 n w0 w mid view →
    IsEnd mid new → Replays limit r0 r w0 w × Rose n0 n
at_the_end limit r0 r w0 w n0 n mid new view h end =
    let pending : h.lines ++ lines_of (mid.pending ++ []) ≡ h.lines = rw end.pending (append-nil h.lines) in
    let all : lines_of h.bytes ≡ h.lines = ap lines_of (sym (append-nil h.bytes)) ∙ h.first [] (λ told. refl) ∙ pending in (
      record {
        bytes = h.bytes;
        taken = h.taken;
        few = rw h.counted at end.asked;
        at_end = h.at_end end.ended;
        outputs = h.outputs;
        answered = subst (λ lines. AreAnswered limit lines h.outputs) (sym all) h.answered;
        written = h.written;
      },
      told_end n0 n mid.ended h.told end.ended,
    )

-- the next line is bad, and that was written
pub stopped : (limit : ℕ) (r0 r w0 w w' : Option (List ℕ)) (n0 n : ℕ) (mid : Reading) (view : SpaceView) (number : ℕ) →
    (h : HasReplayed limit r0 r n0 n w0 w mid view) → mid.taken ≤ 2 ^ 32 → number ≡ mid.number + 1 →
    StartsBad mid.ended mid.pending → Appends w w' (line_of_pieces (malformed_pieces number)) → StopsAtLine limit r0 r n0 n w0 w'
stopped limit r0 r w0 w w' n0 n mid view number h few e bad written =
    let place : number ≡ length h.lines + 1 = e ∙ ap (λ n. n + 1) h.numbered in
    record {
      bytes = h.bytes;
      taken = h.taken;
      few = rw h.counted at few;
      ended = mid.ended;
      at_end = h.at_end;
      told = h.told;
      lines = h.lines;
      next = mid.pending;
      first = h.first;
      bad = bad;
      tells = record {
        outputs = h.outputs;
        answered = h.answered;
        written = Appends-trans w0 w w' (text_of h.outputs) (line_of_pieces (malformed_pieces (length h.lines + 1))) h.written
            (subst (λ n. Appends w w' (line_of_pieces (malformed_pieces n))) place written);
      };
    }

-- the same, and a prefix of it was written
pub stopped_early : (limit : ℕ) (r0 r w0 w w' : Option (List ℕ)) (n0 n : ℕ) (mid : Reading) (view : SpaceView) (number : ℕ) →
    (h : HasReplayed limit r0 r n0 n w0 w mid view) → mid.taken ≤ 2 ^ 32 → number ≡ mid.number + 1 →
    StartsBad mid.ended mid.pending → AppendsPrefix w w' (line_of_pieces (malformed_pieces number)) → HasFailedWrite limit r0 r n0 n w0 w'
stopped_early limit r0 r w0 w w' n0 n mid view number h few e bad prefix =
    let place : number ≡ length h.lines + 1 = e ∙ ap (λ n. n + 1) h.numbered in
    record {
      bytes = h.bytes;
      taken = h.taken;
      few = rw h.counted at few;
      ended = mid.ended;
      at_end = h.at_end;
      told = h.told;
      lines = h.lines;
      next = mid.pending;
      first = h.first;
      outputs = h.outputs;
      answered = h.answered;
      ending = line_of_pieces (malformed_pieces (length h.lines + 1));
      ending_is = inr (refl, bad);
      prefix = prefix_after w0 w w' (text_of h.outputs) (line_of_pieces (malformed_pieces (length h.lines + 1))) h.written
          (subst (λ n. AppendsPrefix w w' (line_of_pieces (malformed_pieces n))) place prefix);
    }

-- what was said of a malformed line, however it ended
pub stops_so : (limit : ℕ) (r0 r w0 w w' : Option (List ℕ)) (n0 n : ℕ) (mid : Reading) (view : SpaceView) (number : ℕ) (end : End) →
    (h : HasReplayed limit r0 r n0 n w0 w mid view) → mid.taken ≤ 2 ^ 32 → number ≡ mid.number + 1 →
    StartsBad mid.ended mid.pending → (end ≡ Malformed) ⊎ (end ≡ WriteFault) → (end ≡ Malformed → Appends w w' (line_of_pieces (malformed_pieces number))) →
    AppendsPrefix w w' (line_of_pieces (malformed_pieces number)) →
    EndsAs limit r0 r n0 n w0 w' end
stops_so limit r0 r w0 w w' n0 n mid view number Malformed h few e bad either written prefix =
    stopped limit r0 r w0 w w' n0 n mid view number h few e bad (written refl)
stops_so limit r0 r w0 w w' n0 n mid view number WriteFault h few e bad either written prefix =
    stopped_early limit r0 r w0 w w' n0 n mid view number h few e bad prefix
stops_so limit r0 r w0 w w' n0 n mid view number Complete h few e bad either written prefix = absurd (⊎_elim (λ x. cc) (λ x. cc) either)
stops_so limit r0 r w0 w w' n0 n mid view number ReadFault h few e bad either written prefix = absurd (⊎_elim (λ x. cc) (λ x. cc) either)
stops_so limit r0 r w0 w w' n0 n mid view number InputLimit h few e bad either written prefix = absurd (⊎_elim (λ x. cc) (λ x. cc) either)

-- a flush before a read has failed
pub failed_flush : (limit : ℕ) (r0 r w0 w w' : Option (List ℕ)) (n0 n : ℕ) (reading : Reading) (view : SpaceView) →
    HasReplayed limit r0 r n0 n w0 w reading view → reading.taken ≤ 2 ^ 32 → Keeps w w' → HasFailedWrite limit r0 r n0 n w0 w'
failed_flush limit r0 r w0 w w' n0 n reading view before few keeps =
    let h = after_flush limit r0 r w0 w w' n0 n reading view before keeps in
    record {
      bytes = h.bytes;
      taken = h.taken;
      few = rw h.counted at few;
      ended = reading.ended;
      at_end = h.at_end;
      told = h.told;
      lines = h.lines;
      next = reading.pending;
      first = h.first;
      outputs = h.outputs;
      answered = h.answered;
      ending = [];
      ending_is = inl refl;
      prefix = rw (append-nil)
          (length (text_of h.outputs), omega arith, rw (take_all (length (text_of h.outputs)) (text_of h.outputs) (omega arith)) h.written);
    }

-- a call that is an error kept its promise
failed_promise : {T E : Type 0} {P : Type 0} (result : Result T E) → is_err result ≡ true → OnErr result P → P
failed_promise (Ok x) e h = cc
failed_promise (Err x) e h = h

-- the next line was given, and a prefix of its outputs was written
pub failed_line : (limit : ℕ) (r0 r w0 w w' : Option (List ℕ)) (n0 n : ℕ) (mid new : Reading) (old_view view : SpaceView) (command : Command) →
    HasReplayed limit r0 r n0 n w0 w mid old_view → mid.taken ≤ 2 ^ 32 → Gives mid new →
    IsReading new.line (Some command) → (result : Result Counts StepFault) → is_err result ≡ true →
    OnErr result (LawfulSteps old_view view command (λ s outputs. AppendsPrefix w w' (text_of outputs))) → HasFailedWrite limit r0 r n0 n w0 w'
failed_line limit r0 r w0 w w' n0 n mid new old_view view command h few gives reading result err steps =
    let step = failed_promise result err steps h.answered.state h.stands in
    record {
      bytes = h.bytes;
      taken = h.taken;
      few = rw h.counted at few;
      ended = new.ended;
      at_end = λ ended. h.at_end (rw gives.ended at ended);
      told = rw gives.ended h.told;
      lines = h.lines ++ new.line ∷ [];
      next = new.pending;
      first = first_more mid new h.bytes h.lines h.first gives;
      outputs = h.outputs ++ step.outputs;
      answered = one_more limit h.lines new.line h.outputs step.outputs step.state command h.answered gives.short reading step.lawful step.spelled;
      ending = [];
      ending_is = inl refl;
      prefix = rw (append-nil, text_of-append) (prefix_after w0 w w' (text_of h.outputs) (text_of step.outputs) h.written step.so);
    }

-- a line that was given is malformed
pub malformed_line : (mid new : Reading) → Gives mid new → IsMalformed new.line → StartsBad mid.ended mid.pending
malformed_line mid new gives malformed = inl (record { line = new.line; rest = new.pending; whole = rw (← gives.ended) gives.whole; malformed = malformed })

-- no more lines are whole
cut_off : (limit : ℕ) (r0 r w0 w : Option (List ℕ)) (n0 n : ℕ) (mid : Reading) (view : SpaceView) → (h : HasReplayed limit r0 r n0 n w0 w mid view) →
    IsUnfinished mid → IsCutOff limit r0 r w0 w h.bytes
cut_off limit r0 r w0 w n0 n mid view h unfinished = record {
  taken = h.taken;
  lines = h.lines;
  begun = mid.pending;
  first = λ more _. h.first more (λ told. absurd (never_both mid.ended unfinished.not_ended told));
  no_lf = unfinished.no_lf;
  short = unfinished.short;
  outputs = h.outputs;
  answered = h.answered;
  written = h.written;
}

pub read_failed : (limit : ℕ) (r0 r w0 w : Option (List ℕ)) (n0 n : ℕ) (mid : Reading) (view : SpaceView) → HasReplayed limit r0 r n0 n w0 w mid view →
    IsUnfinished mid → mid.taken < 2 ^ 32 → HasFailedRead limit r0 r w0 w × (n ≡ n0)
read_failed limit r0 r w0 w n0 n mid view h unfinished few = (
  record { bytes = h.bytes; few = rw h.counted at few; cut_off = cut_off limit r0 r w0 w n0 n mid view h unfinished },
  untold_end n0 n mid.ended h.told
      unfinished.not_ended,
)

pub limit_reached : (limit : ℕ) (r0 r w0 w : Option (List ℕ)) (n0 n : ℕ) (mid : Reading) (view : SpaceView) → HasReplayed limit r0 r n0 n w0 w mid view →
    IsUnfinished mid → mid.taken ≡ 2 ^ 32 → HasReachedLimit limit r0 r w0 w × (n ≡ n0)
limit_reached limit r0 r w0 w n0 n mid view h unfinished many = (
  record { bytes = h.bytes; many = sym h.counted ∙ many; cut_off = cut_off limit r0 r w0 w n0 n mid view h unfinished },
  untold_end n0 n mid.ended h.told
      unfinished.not_ended,
)

-- a whole line that is pending isn't read past
pub no_whole_line : (before after : Option (List ℕ)) (m n : ℕ) (old mid : Reading) → Takes before after m n old mid → HasNoLf mid.pending → HasNoLf old.pending
no_whole_line before after m n old mid takes none = HasNoLf-begins old.pending takes.bytes (rw takes.pending at none)

-- where the source was needed, the sink holds nothing
pub none_held : (before after : Option (List ℕ)) (m n held : ℕ) (old mid : Reading) → Takes before after m n old mid → HasNoLf mid.pending →
    (HasNoLf old.pending → ⊥) ⊎ (held ≡ 0) → held ≡ 0
none_held before after m n held old mid takes none either =
    ⊎_elim (λ whole. absurd (whole (no_whole_line before after m n old mid takes none))) (λ same. same) either

-- what was written is kept, and then more bytes are taken
pub after_keeping : (limit : ℕ) (r0 r r' w0 w w' : Option (List ℕ)) (n0 n n' : ℕ) (old same mid : Reading) (view : SpaceView) →
    HasReplayed limit r0 r n0 n w0 w old view → Keeps w w' → same ≡ old → Takes r r' n n' same mid → HasReplayed limit r0 r' n0 n' w0 w' mid view
after_keeping limit r0 r r' w0 w w' n0 n n' old same mid view h keeps e takes =
    after_taking limit r0 r r' w0 w' n0 n n' old mid view (after_flush limit r0 r w0 w w' n0 n old view h keeps) (rw e at takes)
