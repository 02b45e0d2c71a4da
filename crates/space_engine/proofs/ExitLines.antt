-- `exit`, up to the finalizers that run, from what was done to the heap and what was written: whether a write failed in the completion, in the
-- lines of the verdict, or in none of both.
use Rattle.std.proofs.Common.{◌≡◌, ◌+◌, ◌<◌, ◌^◌, ℕ, List, [], length, map, sym, ap, ◌∙◌, subst, Option, Result, Ok, Err, OnErr}
use Rattle.std.specs.Prelude.{IfOk, MatchResult}
use Rattle.std.specs.Io.KnownBytes.{Appends}
use Rattle.space_io.specs.Causes.{HasCause}
use Rattle.space_io.specs.Sinks.{AppendsPrefix}
use Rattle.space_model.specs.declared.event.Event.{Event}
use Rattle.space_model.specs.declared.event.Kind.TheVariants.{Full}
use Rattle.space_model.specs.Outputs.{Told}
use Rattle.space_model.specs.Texts.{text_of}
use Rattle.space_model.specs.Verdicts.{verdict_events}
use Rattle.space_heap.specs.HeapView.{HeapView}
use Rattle.space_collector.specs.GoneNames.{gone_names}
use Rattle.space_collector.specs.HeapVerdicts.{IsHeapVerdict}
use Rattle.space_collector.specs.PagesSwept.{SweepsAll}
use Rattle.space_engine.specs.HeapCollections.{IsCompletion, IsTickedCompletion, IsEmptied, IsTickedExit, AreTold, AreCut}
use Rattle.space_engine.specs.Views.{View, with_judged, with_swept, without_starts}
use Rattle.space_engine.proofs.Completing.{exit_done, exit_verdict_cut, exit_completion_cut}

module _ (old idle : View) (judged : HeapView) (new : View) (scans : ℕ) (verdict : IsHeapVerdict idle.heap judged Full [] [] scans) (few : scans < 2 ^ 24)
    (sweeps : SweepsAll judged idle.finals new.heap new.finals)
    (swept : new ≡ with_swept (with_judged (without_starts idle) judged) new.heap new.finals) where
  abbrev Completes : ℕ → List Event → Type 0
  Completes ended events = IsCompletion old idle ended events

  abbrev told : List ℕ
  told = text_of (map Told (verdict_events Full (gone_names judged)))

  module _ {T E : Type 0} (gone_of moves_of : T → ℕ) (ticks between : ℕ) (before middle after : Option (List ℕ)) where
    pub emptied_done : (ended result : Result T E) (gone ticked : ℕ) →
        IfOk ended (λ e. AreTold (IsTickedCompletion old idle ticks between) (gone_of e) (moves_of e) before middle) →
        gone ≡ length (gone_names judged) → ticked ≡ between + scans → IfOk result (λ total. OnErr ended ⊥) →
        IfOk result (λ total. IfOk ended (λ e. (gone_of total ≡ gone_of e + gone) × (moves_of total ≡ moves_of e) × Appends middle after told)) →
        IfOk result (λ total. AreTold (IsTickedExit old new ticks ticked) (gone_of total) (moves_of total) before after)
    emptied_done ended (Err fault) gone ticked c many rose failed both = tt
    emptied_done (Err fault) (Ok total) gone ticked c many rose failed both = absurd failed
    emptied_done (Ok e) (Ok total) gone ticked c many rose failed (gone_is, moves_are, written) =
        subst (λ gone. AreTold (IsTickedExit old new ticks ticked) gone (moves_of total) before after) (sym gone_is)
        (subst (λ moves. AreTold (IsTickedExit old new ticks ticked) (gone_of e + gone) moves before after) (sym moves_are)
        (exit_done old idle judged new scans verdict few sweeps swept before middle after c.are.scans (gone_of e) (moves_of e) gone ticks ticked
        (record { events = c.events; are = c.are.completes; counted = c.counted; written = c.written })
        many written (rose ∙ ap (λ n. n + scans) c.are.rose)))

    pub emptied_cut : (ended result : Result T E) → IfOk ended (λ e. AreTold (IsTickedCompletion old idle ticks between) (gone_of e) (moves_of e) before middle) →
        OnErr ended (AreCut (λ events. (scans : ℕ) × Completes scans events) before middle) →
        OnErr result (MatchResult ended (λ e. AppendsPrefix middle after told) (λ fault. after ≡ middle)) →
        OnErr result (AreCut (λ events. (ended : ℕ) × IsEmptied old new ended events) before after)
    emptied_cut ended (Ok total) c cut last = tt
    emptied_cut (Ok e) (Err fault) c cut prefix =
        exit_verdict_cut old idle judged new scans verdict few sweeps swept before middle after c.are.scans (gone_of e) (moves_of e)
        (record { events = c.events; are = c.are.completes; counted = c.counted; written = c.written }) prefix
    emptied_cut (Err first) (Err fault) c cut same =
        exit_completion_cut old idle judged new scans verdict few sweeps swept before after
        (subst (AreCut (λ events. (scans : ℕ) × Completes scans events) before) (sym same) cut)

-- a write that failed before leaves the faults to it
pub cause_after : {T E : Type 0} (first middle last : ℕ) (ended result : Result T E) → HasCause first middle ended →
    IfOk ended (λ e. HasCause middle last result) → OnErr ended (last ≡ middle) → IfOk result (λ total. OnErr ended ⊥) → HasCause first last result
cause_after first middle last (Ok e) result before after none failed = subst (λ n. HasCause n last result) before.calm after
cause_after first middle last (Err fault) (Ok total) before after none failed = absurd failed
cause_after {T} {E} first middle last (Err fault) (Err same) before after none failed =
    subst (λ n. HasCause {T = T} {E = E} first n (Err same)) (sym none) (record { later = before.later; calm = tt; failed = before.failed })
