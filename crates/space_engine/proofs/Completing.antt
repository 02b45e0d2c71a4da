-- The completion of what is under way, and a collection, from what was done to the heap and what was written.
use Rattle.std.proofs.Common.{◌≡◌, ◌≢◌, ◌+◌, ◌<◌, ◌^◌, ℕ, List, [], ◌++◌, length, map, refl, sym, ap, ◌∙◌, subst, Option, Result, Ok, Err, OnErr, ⊎_elim}
use Rattle.std.specs.Prelude.{IfOk}
use Rattle.std.specs.Io.KnownBytes.{Appends}
use Rattle.std.proofs.KnownBytes.{Appends-nil, Appends-trans}
use Rattle.std.proofs.lemmas.List.{map-append}
use Rattle.std.proofs.lemmas.Result.{IfOk-weaker, on_err_weaker}
use Rattle.space_io.specs.Sinks.{AppendsPrefix}
use Rattle.space_model.specs.declared.event.Event.{Event}
use Rattle.space_model.specs.declared.event.Kind.{Kind}
use Rattle.space_model.specs.declared.event.Kind.TheVariants.{Major, Full}
use Rattle.space_model.specs.declared.phase.Phase.TheVariants.{Idle, Marking, Sweeping, Moving, Fixing}
use Rattle.space_model.specs.Outputs.{Told}
use Rattle.space_model.specs.Texts.{text_of}
use Rattle.space_model.specs.Verdicts.{verdict_events}
use Rattle.space_finals.specs.FinalLists.{FinalLists}
use Rattle.space_heap.specs.HeapView.{HeapView}
use Rattle.space_heap.specs.SoundHeap.{IsSoundHeap}
use Rattle.space_roots.specs.WordRoots.{root_words}
use Rattle.space_collector.specs.GoneNames.{gone_names}
use Rattle.space_collector.specs.HeapVerdicts.{IsHeapVerdict}
use Rattle.space_collector.specs.PagesSwept.{SweepsAll}
use Rattle.space_collector.proofs.HeapVerdictLaws.{phase-verdict}
use Rattle.space_collector.proofs.ToldLines.{text_of-append, prefix_after, prefix_longer}
use Rattle.space_engine.specs.Counting.{no_counts}
use Rattle.space_engine.specs.HeapCollections.{IsTelling, IsHeapCompletion, CompletesMoves, CompletesFixes, IsCompletion, IsTickedCompletion, IsCollected, IsTickedCollection, IsEmptied, IsTickedExit, AreTold, AreCut}
use Rattle.space_engine.specs.Turns.{IsAtRest}
use Rattle.space_engine.specs.Views.{View, with_completed, with_judged, with_swept, without_starts}
use Rattle.space_engine.proofs.Collecting.{phase_at_rest}
use Rattle.space_engine.proofs.OutputLists.{counted_names, counted_both}

-- what is so of events is so of those that were written
pub told_weaker : (P Q : List Event → Type 0) (gone moves : ℕ) (before after : Option (List ℕ)) → ((events : List Event) → P events → Q events) →
    AreTold P gone moves before after → AreTold Q gone moves before after
told_weaker P Q gone moves before after so t = record { events = t.events; are = so t.events t.are; counted = t.counted; written = t.written }

-- and of those that were cut off
pub cut_weaker : (P Q : List Event → Type 0) (before after : Option (List ℕ)) → ((events : List Event) → P events → Q events) →
    AreCut P before after → AreCut Q before after
cut_weaker P Q before after so t = record { events = t.events; are = so t.events t.are; prefix = t.prefix }

-- the lines of a verdict tell of all that it took
pub telling_told : (old new : HeapView) (kind : Kind) (roots stack : List ℕ) (scans gone : ℕ) (before after : Option (List ℕ)) →
    IsHeapVerdict old new kind roots stack scans → scans < 2 ^ 24 → gone ≡ length (gone_names new) →
    Appends before after (text_of (map Told (verdict_events kind (gone_names new)))) →
    AreTold (IsTelling old new kind roots stack scans) gone 0 before after
telling_told old new kind roots stack scans gone before after verdict few many written = record {
  events = verdict_events kind (gone_names new);
  are = record { verdict = verdict; few = few; events_are = refl };
  counted = counted_names kind (gone_names new) (length (gone_names new)) ∙ ap (λ n. record no_counts { gone = n }) (sym many);
  written = written;
}

-- a verdict left all but ids and weak maps as it was, so the sweeps after it queue the finalizers from before
pub sweeps_judged : (old before judged : View) (idle : HeapView) (g : FinalLists) → before ≡ judged → judged ≡ with_judged old judged.heap →
    SweepsAll before.heap before.finals idle g → SweepsAll judged.heap old.finals idle g
sweeps_judged old before judged idle g same rest sweeps =
    let finals : judged.finals ≡ old.finals = ap (λ (v : View). v.finals) rest in
    subst (λ f. SweepsAll judged.heap f idle g) finals (subst (λ (v : View). SweepsAll v.heap v.finals idle g) same sweeps)

-- a marking was ended, which left the heap `judged`, and then every page was swept
module _ (old judged : HeapView) (f : FinalLists) (idle : HeapView) (g : FinalLists) (roots stack : List ℕ) (marking : old.phase ≡ Marking)
    (sweeps : SweepsAll judged f idle g) {T E : Type 0} (result : Result T E) (scans gone : T → ℕ) (before after : Option (List ℕ)) where
  abbrev Tells : ℕ → List Event → Type 0
  Tells scans events = IsTelling old judged Major roots stack scans events

  abbrev Completes : ℕ → List Event → Type 0
  Completes scans events = IsHeapCompletion old f idle g roots stack scans events

  ends : (scans : ℕ) (events : List Event) → Tells scans events → Completes scans events
  ends scans events t = record {
    marking = λ is. record { judged = judged; tells = t; sweeps = sweeps };
    others = λ other. absurd (other marking);
  }

  pub ended_done : IfOk result (λ ended. AreTold (Tells (scans ended)) (gone ended) 0 before after) →
      IfOk result (λ ended. AreTold (Completes (scans ended)) (gone ended) 0 before after)
  ended_done told = IfOk-weaker result _ _ (λ ended t. told_weaker (Tells (scans ended)) (Completes (scans ended)) (gone ended) 0 before after (ends (scans ended)) t) told

  pub ended_fault : OnErr result (AreCut (λ events. (scans : ℕ) × Tells scans events) before after) →
      OnErr result (AreCut (λ events. (scans : ℕ) × Completes scans events) before after)
  ended_fault cut = on_err_weaker result (λ t. cut_weaker _ _ before after (λ events (scans, tells). (scans, ends scans events tells)) t) cut

  -- nothing is under way then
  pub ended_idle : IfOk result (λ ended. AreTold (Tells (scans ended)) (gone ended) 0 before after) →
      OnErr result (AreCut (λ events. (scans : ℕ) × Tells scans events) before after) →
      (judged.phase ≡ Sweeping → idle.phase ≡ Idle) → (judged.phase ≢ Sweeping → idle ≡ judged) → idle.phase ≡ Idle
  ended_idle told cut swept same = idle_by result told cut
    where
      by_verdict : (scans : ℕ) (events : List Event) → Tells scans events → idle.phase ≡ Idle
      by_verdict scans events t = ⊎_elim
          (λ at. ap (λ (w : HeapView). w.phase) (same (λ e. cc)) ∙ at)
          swept
          (phase-verdict old judged Major roots stack scans t.verdict)

      idle_by : (result : Result T E) → IfOk result (λ ended. AreTold (Tells (scans ended)) (gone ended) 0 before after) →
          OnErr result (AreCut (λ events. (scans : ℕ) × Tells scans events) before after) → idle.phase ≡ Idle
      idle_by (Ok ended) told cut = by_verdict (scans ended) told.events told.are
      idle_by (Err fault) told cut = by_verdict cut.are.0 cut.events cut.are.1

-- outside a marking every page was swept, and nothing else was done
module _ (old : HeapView) (f : FinalLists) (idle : HeapView) (g : FinalLists) (roots stack : List ℕ) (other : old.phase ≢ Marking)
    (sound : IsSoundHeap old) (sweeps : SweepsAll old f idle g) where
  pub swept_done : (before : Option (List ℕ)) → AreTold (IsHeapCompletion old f idle g roots stack 0) 0 0 before before
  swept_done before = record {
    events = [];
    are = record {
      marking = λ marking. absurd (other marking);
      others = λ is. record { sound = sound; sweeps = sweeps; no_scans = refl; no_events = refl };
    };
    counted = refl;
    written = Appends-nil before;
  }

  pub swept_idle : IsAtRest old → (old.phase ≡ Sweeping → idle.phase ≡ Idle) → (old.phase ≢ Sweeping → idle ≡ old) → idle.phase ≡ Idle
  swept_idle rests swept same = ⊎_elim
      (λ at. ap (λ (w : HeapView). w.phase) (same (λ e. cc)) ∙ at)
      (⊎_elim (λ marking. absurd (other marking)) swept)
      (phase_at_rest old.phase rests.0 rests.1)

-- what was completed outside a compaction is a completion
pub rests_complete : (old new : View) (scans : ℕ) (events : List Event) → IsAtRest old.heap → new ≡ with_completed old new.heap new.finals →
    new.heap.phase ≡ Idle → IsHeapCompletion old.heap old.finals new.heap new.finals (root_words old.roots) old.stack scans events →
    IsCompletion old new scans events
rests_complete old new scans events rests rest idle c = record {
  rests = λ rests. record { heap = c; rest = rest };
  moving = λ moving. absurd (rests.0 moving);
  fixing = λ fixing. absurd (rests.1 fixing);
  idle = idle;
}

-- so is what was completed in a compaction
pub moves_complete : (old new : View) (scans : ℕ) (events : List Event) → old.heap.phase ≡ Moving → new.heap.phase ≡ Idle →
    CompletesMoves old new events → IsCompletion old new scans events
moves_complete old new scans events moving idle c = record {
  rests = λ rests. absurd (rests.0 moving);
  moving = λ is. c;
  fixing = λ fixing. (let at = moving in cc);
  idle = idle;
}

pub fixes_complete : (old new : View) (scans : ℕ) → old.heap.phase ≡ Fixing → new.heap.phase ≡ Idle → CompletesFixes old new →
    IsCompletion old new scans []
fixes_complete old new scans fixing idle c = record {
  rests = λ rests. absurd (rests.1 fixing);
  moving = λ moving. (let at = fixing in cc);
  fixing = λ is. (refl, c);
  idle = idle;
}

-- without the ledger's count
pub ticked_completes : (old new : View) (ticks ticked gone moves : ℕ) (before after : Option (List ℕ))
    (t : AreTold (IsTickedCompletion old new ticks ticked) gone moves before after) → AreTold (IsCompletion old new t.are.scans) gone moves before after
ticked_completes old new ticks ticked gone moves before after t =
    record { events = t.events; are = t.are.completes; counted = t.counted; written = t.written }

-- what is purged by the heap after a verdict is of the space that was there before it
pub judged_now : (before mid new : View) (heap : HeapView) → before ≡ mid → new ≡ with_judged before heap → new ≡ with_judged mid new.heap
judged_now before mid new heap same judged =
    let is : heap ≡ new.heap = sym (ap (λ (v : View). v.heap) judged) in
    judged ∙ (λ i. with_judged (same i) (is i))

-- and so is the verdict
pub verdict_now : (before mid new : View) (heap : HeapView) (kind : Kind) (scans : ℕ) → before ≡ mid → new ≡ with_judged before heap →
    IsHeapVerdict before.heap heap kind (root_words before.roots) before.stack scans →
    IsHeapVerdict mid.heap new.heap kind (root_words mid.roots) mid.stack scans
verdict_now before mid new heap kind scans same judged verdict =
    subst (λ heap. IsHeapVerdict mid.heap heap kind (root_words mid.roots) mid.stack scans) (sym (ap (λ (v : View). v.heap) judged))
    (subst (λ (u : View). IsHeapVerdict u.heap heap kind (root_words u.roots) u.stack scans) same verdict)

-- a completion, and then the lines of a verdict of the kind, which left the heap `judged`: what they come to together
module _ (kind : Kind) (judged : HeapView) (P Q : List Event → Type 0)
    (joins : (completion : List Event) → P completion → Q (completion ++ verdict_events kind (gone_names judged))) where
  abbrev lines : List Event
  lines = verdict_events kind (gone_names judged)

  both_texts : (completion : List Event) → text_of (map Told (completion ++ lines)) ≡ text_of (map Told completion) ++ text_of (map Told lines)
  both_texts completion = ap text_of (map-append Told completion lines) ∙ text_of-append (map Told completion) (map Told lines)

  module _ (before middle after : Option (List ℕ)) where
    -- the lines of both were written
    both_told : (first moves second : ℕ) → AreTold P first moves before middle → second ≡ length (gone_names judged) →
        Appends middle after (text_of (map Told lines)) → AreTold Q (first + second) moves before after
    both_told first moves second c many written = record {
      events = c.events ++ lines;
      are = joins c.events c.are;
      counted = counted_both c.events lines first moves second c.counted
          (counted_names kind (gone_names judged) (length (gone_names judged)) ∙ ap (λ n. record no_counts { gone = n }) (sym many));
      written = subst (Appends before after) (sym (both_texts c.events))
          (Appends-trans before middle after (text_of (map Told c.events)) (text_of (map Told lines)) c.written written);
    }

    -- those of the verdict were cut off
    second_cut : (first moves : ℕ) → AreTold P first moves before middle → AppendsPrefix middle after (text_of (map Told lines)) → AreCut Q before after
    second_cut first moves c prefix = record {
      events = c.events ++ lines;
      are = joins c.events c.are;
      prefix = subst (AppendsPrefix before after) (sym (both_texts c.events))
          (prefix_after before middle after (text_of (map Told c.events)) (text_of (map Told lines)) c.written prefix);
    }

  -- those of the completion were cut off, and those of the verdict weren't written
  first_cut : (before after : Option (List ℕ)) → AreCut P before after → AreCut Q before after
  first_cut before after cut = record {
    events = cut.events ++ lines;
    are = joins cut.events cut.are;
    prefix = subst (AppendsPrefix before after) (sym (both_texts cut.events))
        (prefix_longer before after (text_of (map Told cut.events)) (text_of (map Told lines)) cut.prefix);
  }

-- a collection: a completion, which left the space `idle`, and then a verdict of the kind, which left the last space
module _ (old idle new : View) (kind : Kind) (scans : ℕ) (verdict : IsHeapVerdict idle.heap new.heap kind (root_words idle.roots) idle.stack scans)
    (few : scans < 2 ^ 24) (judged : new ≡ with_judged idle new.heap) where
  abbrev Completed : ℕ → List Event → Type 0
  Completed ended events = IsCompletion old idle ended events

  abbrev Collected : List Event → Type 0
  Collected events = (ended scans : ℕ) × IsCollected old new kind ended scans events

  abbrev told : List Event
  told = verdict_events kind (gone_names new.heap)

  collection : (ended : ℕ) (completion : List Event) → Completed ended completion → IsCollected old new kind ended scans (completion ++ told)
  collection ended completion c = record {
    idle = idle;
    completion = completion;
    completes = c;
    told = told;
    tells = record { verdict = verdict; few = few; events_are = refl };
    judged = judged;
    events_are = refl;
  }

  module _ (before middle after : Option (List ℕ)) where
    pub collected_done : (ended first moves second ticks ticked : ℕ) → AreTold (Completed ended) first moves before middle →
        second ≡ length (gone_names new.heap) → Appends middle after (text_of (map Told told)) → ticked ≡ ticks + ended + scans →
        AreTold (IsTickedCollection old new kind scans ticks ticked) (first + second) moves before after
    collected_done ended first moves second ticks ticked c many written rose =
        both_told kind new.heap (Completed ended) (IsTickedCollection old new kind scans ticks ticked)
        (λ completion c. record { ended = ended; collects = collection ended completion c; rose = rose })
        before middle after first moves second c many written

    pub verdict_cut : (ended first moves : ℕ) → AreTold (Completed ended) first moves before middle → AppendsPrefix middle after (text_of (map Told told)) →
        AreCut Collected before after
    verdict_cut ended first moves c prefix =
        second_cut kind new.heap (Completed ended) Collected (λ completion c. (ended, scans, collection ended completion c)) before middle after first moves c prefix

  pub completion_cut : (before after : Option (List ℕ)) → AreCut (λ events. (ended : ℕ) × Completed ended events) before after →
      AreCut Collected before after
  completion_cut = first_cut kind new.heap (λ events. (ended : ℕ) × Completed ended events) Collected
      (λ completion (ended, c). (ended, scans, collection ended completion c))

-- `exit` up to the finalizers that run: a completion, which left the space `idle`, a whole verdict without roots and stack words, which left the heap
-- `judged`, and sweeps of all pages
module _ (old idle : View) (judged : HeapView) (new : View) (scans : ℕ) (verdict : IsHeapVerdict idle.heap judged Full [] [] scans) (few : scans < 2 ^ 24)
    (sweeps : SweepsAll judged idle.finals new.heap new.finals)
    (swept : new ≡ with_swept (with_judged (without_starts idle) judged) new.heap new.finals) where
  abbrev CompletedFirst : ℕ → List Event → Type 0
  CompletedFirst ended events = IsCompletion old idle ended events

  abbrev Exited : List Event → Type 0
  Exited events = (ended : ℕ) × IsEmptied old new ended events

  abbrev told_last : List Event
  told_last = verdict_events Full (gone_names judged)

  abbrev exits : (ended : ℕ) (completion : List Event) → CompletedFirst ended completion → IsEmptied old new ended (completion ++ told_last)
  exits ended completion c = record {
    idle = idle;
    completion = completion;
    completes = c;
    judged = judged;
    scans = scans;
    told = told_last;
    tells = record { verdict = verdict; few = few; events_are = refl };
    sweeps = sweeps;
    swept = swept;
    events_are = refl;
  }

  module _ (before middle after : Option (List ℕ)) where
    pub exit_done : (ended first moves second ticks ticked : ℕ) → AreTold (CompletedFirst ended) first moves before middle →
        second ≡ length (gone_names judged) → Appends middle after (text_of (map Told told_last)) → ticked ≡ ticks + ended + scans →
        AreTold (IsTickedExit old new ticks ticked) (first + second) moves before after
    exit_done ended first moves second ticks ticked c many written rose =
        both_told Full judged (CompletedFirst ended) (IsTickedExit old new ticks ticked)
        (λ completion c. record { ended = ended; exits = exits ended completion c; rose = rose })
        before middle after first moves second c many written

    pub exit_verdict_cut : (ended first moves : ℕ) → AreTold (CompletedFirst ended) first moves before middle →
        AppendsPrefix middle after (text_of (map Told told_last)) → AreCut Exited before after
    exit_verdict_cut ended first moves c prefix =
        second_cut Full judged (CompletedFirst ended) Exited (λ completion c. (ended, exits ended completion c)) before middle after first moves c prefix

  pub exit_completion_cut : (before after : Option (List ℕ)) → AreCut (λ events. (ended : ℕ) × CompletedFirst ended events) before after →
      AreCut Exited before after
  exit_completion_cut = first_cut Full judged (λ events. (ended : ℕ) × CompletedFirst ended events) Exited
      (λ completion (ended, c). (ended, exits ended completion c))
