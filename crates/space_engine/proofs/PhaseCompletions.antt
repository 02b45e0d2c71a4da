-- What completes the work of one phase is a completion, with the ledger's count and the work that it is.
use Rattle.std.proofs.Common.{◌≡◌, ◌+◌, ◌-◌, ◌≤◌, ℕ, List, [], refl, arith, Option}
use Rattle.std.proofs.KnownBytes.{Appends-nil}
use Rattle.space_model.specs.declared.event.Event.{Event}
use Rattle.space_model.specs.declared.phase.Phase.TheVariants.{Idle, Moving, Fixing}
use Rattle.space_heap.specs.HeapView.{HeapView}
use Rattle.space_roots.specs.WordRoots.{root_words}
use Rattle.space_engine.specs.HeapCollections.{IsHeapCompletion, CompletesMoves, CompletesFixes, IsCompletion, IsTickedCompletion, AreTold, AreCut, HasJudged}
use Rattle.space_engine.specs.Turns.{IsAtRest}
use Rattle.space_engine.specs.Views.{View, with_completed}
use Rattle.space_engine.proofs.Completing.{told_weaker, cut_weaker, moves_complete, fixes_complete, rests_complete}

module _ (old new : View) (idle : new.heap.phase ≡ Idle) where
  abbrev Ticked : ℕ → ℕ → List Event → Type 0
  Ticked ticks ticked events = IsTickedCompletion old new ticks ticked events

  abbrev Completed : List Event → Type 0
  Completed events = (scans : ℕ) × IsCompletion old new scans events

  -- moves and corrections
  module _ (moving : old.heap.phase ≡ Moving) (before after : Option (List ℕ)) where
    pub moves_done : (moves ticks ticked : ℕ) → ticks ≤ ticked → AreTold (CompletesMoves old new) 0 moves before after →
        AreTold (IsTickedCompletion old new ticks ticked) 0 moves before after
    moves_done moves ticks ticked rose told = told_weaker (CompletesMoves old new) (Ticked ticks ticked) 0 moves before after
        (λ events c. record { scans = ticked - ticks; completes = moves_complete old new (ticked - ticks) events moving idle c; rose = omega (arith, rose) })
        told

    pub moves_fault : AreCut (CompletesMoves old new) before after → AreCut (λ events. (scans : ℕ) × IsCompletion old new scans events) before after
    moves_fault cut = cut_weaker (CompletesMoves old new) Completed before after (λ events c. (0, moves_complete old new 0 events moving idle c)) cut

  -- corrections alone, without a line
  pub fixes_done : old.heap.phase ≡ Fixing → CompletesFixes old new → (known : Option (List ℕ)) (ticks ticked : ℕ) → ticks ≤ ticked →
      AreTold (IsTickedCompletion old new ticks ticked) 0 0 known known
  fixes_done fixing c known ticks ticked rose = record {
    events = [];
    are = record {
      scans = ticked - ticks;
      completes = fixes_complete old new (ticked - ticks) fixing idle c;
      rose = omega (arith, rose);
    };
    counted = refl;
    written = Appends-nil known;
  }

  -- outside a compaction
  module _ (rests : IsAtRest old.heap) (rest : new ≡ with_completed old new.heap new.finals) (before after : Option (List ℕ)) where
    abbrev AtRest : ℕ → List Event → Type 0
    AtRest scans events = IsHeapCompletion old.heap old.finals new.heap new.finals (root_words old.roots) old.stack scans events

    pub rests_done : (scans gone ticks ticked : ℕ) → ticked ≡ ticks + scans → AreTold (AtRest scans) gone 0 before after →
        AreTold (IsTickedCompletion old new ticks ticked) gone 0 before after
    rests_done scans gone ticks ticked rose told = told_weaker (AtRest scans) (Ticked ticks ticked) gone 0 before after
        (λ events c. record { scans = scans; completes = rests_complete old new scans events rests rest idle c; rose = rose })
        told

    pub rests_fault : AreCut (λ events. (scans : ℕ) × AtRest scans events) before after →
        AreCut (λ events. (scans : ℕ) × IsCompletion old new scans events) before after
    rests_fault cut = cut_weaker (λ events. (scans : ℕ) × AtRest scans events) Completed before after
        (λ events (scans, c). (scans, rests_complete old new scans events rests rest idle c))
        cut

-- what each phase's completion does is no more than any completion may
pub judged_more : (v w : HeapView) (minors others slots ended more_others more_slots more_ended : ℕ) → HasJudged minors others slots ended v w →
    others ≤ more_others → slots ≤ more_slots → ended ≤ more_ended → HasJudged minors more_others more_slots more_ended v w
judged_more v w minors others slots ended more_others more_slots more_ended h few_others few_slots few_ended =
    let was_others = h.other_verdicts in
    let was_slots = h.freed in
    let was_ended = h.compactions in
    let was_moves = h.moves in
    record {
      born = h.born;
      minor_verdicts = h.minor_verdicts;
      other_verdicts = omega arith;
      freed = omega arith;
      compactions = omega arith;
      moves = omega arith;
      page_count = h.page_count;
      limit = h.limit;
      quiescent = h.quiescent;
      rests = h.rests;
    }
