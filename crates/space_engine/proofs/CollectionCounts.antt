-- How far verdicts, and the sweeps before and after them, change a heap's counts, and that nothing but a sweep is under way after them.
use Rattle.std.proofs.Common.{◌≡◌, ◌≢◌, ◌⊎◌, ℕ, ◌+◌, ◌*◌, ◌≤◌, List, refl, sym, ap, ◌∙◌, arith, ⊎_elim}
use Rattle.space_model.specs.declared.event.Kind.{Kind}
use Rattle.space_model.specs.declared.event.Kind.TheVariants.{Minor, Major, Full}
use Rattle.space_model.specs.declared.phase.Phase.{Phase}
use Rattle.space_model.specs.declared.phase.Phase.TheVariants.{Idle, Sweeping, Moving, Fixing}
use Rattle.space_heap.specs.HeapView.{Counters, HeapView}
use Rattle.space_heap.specs.Sweeping.{minors_after, others_after}
use Rattle.space_collector.specs.HeapVerdicts.{IsHeapVerdict}
use Rattle.space_collector.specs.PagesSwept.{LeavesRest}
use Rattle.space_collector.specs.Quiescent.{IsQuiescent, most_slots, phase_before}
use Rattle.space_collector.proofs.HeapVerdictLaws.{counters-verdict, count-verdict, limit-verdict, phase-verdict}
use Rattle.space_engine.specs.HeapCollections.{HasJudged}
use Rattle.space_engine.specs.Turns.{IsAtRest}

-- after a verdict pages wait for a sweep, or nothing is under way
rests_settled : (phase : Phase) → (phase ≡ Idle) ⊎ (phase ≡ Sweeping) → (phase ≢ Moving) × (phase ≢ Fixing)
rests_settled phase at = (λ e. ⊎_elim (λ idle. cc) (λ waits. cc) at, λ e. ⊎_elim (λ idle. cc) (λ waits. cc) at)

-- so many more verdicts of one kind than of none
fewer_minors : (kind : Kind) (n : ℕ) → minors_after kind n ≤ n + 1
fewer_minors Minor n = omega arith
fewer_minors Major n = omega arith
fewer_minors Full n = omega arith

fewer_others : (kind : Kind) (n : ℕ) → others_after kind n ≤ n + 1
fewer_others Minor n = omega arith
fewer_others Major n = omega arith
fewer_others Full n = omega arith

-- no more was done than this and that together
pub judged_both : (v u w : HeapView) (minors more_minors all_minors others more_others all_others slots more_slots all_slots n : ℕ) →
    HasJudged minors others slots n v u → HasJudged more_minors more_others more_slots 0 u w → minors + more_minors ≤ all_minors →
    others + more_others ≤ all_others → slots + more_slots ≤ all_slots → HasJudged all_minors all_others all_slots n v w
judged_both v u w minors more_minors all_minors others more_others all_others slots more_slots all_slots n first second few_minors few_others few_slots =
    let old_minors = first.minor_verdicts in
    let new_minors = second.minor_verdicts in
    let old_others = first.other_verdicts in
    let new_others = second.other_verdicts in
    let old_slots = first.freed in
    let new_slots = second.freed in
    let old_compactions = first.compactions in
    let new_compactions = second.compactions in
    let old_moves = first.moves in
    let new_moves = second.moves in
    record {
      born = second.born ∙ first.born;
      minor_verdicts = omega arith;
      other_verdicts = omega arith;
      freed = omega arith;
      compactions = omega arith;
      moves = omega arith;
      page_count = second.page_count ∙ first.page_count;
      limit = second.limit ∙ first.limit;
      quiescent = second.quiescent;
      rests = second.rests;
    }

-- a marking and its verdict: no slot is freed, no page comes or goes
module _ (v w : HeapView) (kind : Kind) (roots stack : List ℕ) (scans : ℕ) (verdict : IsHeapVerdict v w kind roots stack scans)
    (quiescent : IsQuiescent w) where
  counter : (f : Counters → ℕ) → f w.counters ≡ f (record v.counters {
    minor_verdicts = minors_after kind v.counters.minor_verdicts;
    other_verdicts = others_after kind v.counters.other_verdicts;
  })
  counter f = ap f (counters-verdict v w kind roots stack scans verdict)

  judged_by : (minors others : ℕ) → minors_after kind v.counters.minor_verdicts ≤ v.counters.minor_verdicts + minors →
      others_after kind v.counters.other_verdicts ≤ v.counters.other_verdicts + others → HasJudged minors others 0 0 v w
  judged_by minors others few_minors few_others =
      let same_minors = counter (λ (c : Counters). c.minor_verdicts) in
      let same_others = counter (λ (c : Counters). c.other_verdicts) in
      let same_freed = counter (λ (c : Counters). c.freed) in
      let same_compactions = counter (λ (c : Counters). c.compactions) in
      let same_moves = counter (λ (c : Counters). c.moves) in
      record {
        born = counter (λ (c : Counters). c.born);
        minor_verdicts = omega arith;
        other_verdicts = omega arith;
        freed = omega arith;
        compactions = omega arith;
        moves = omega arith;
        page_count = count-verdict v w kind roots stack scans verdict;
        limit = limit-verdict v w kind roots stack scans verdict;
        quiescent = quiescent;
        rests = rests_settled w.phase (phase-verdict v w kind roots stack scans verdict);
      }

  -- one verdict was done, of whichever count
  one_judged : HasJudged 1 1 0 0 v w
  one_judged = judged_by 1 1 (fewer_minors kind v.counters.minor_verdicts) (fewer_others kind v.counters.other_verdicts)

  -- after a completion it makes a collection
  pub collection_judged : (before : HeapView) → HasJudged 0 1 most_slots 1 before v → HasJudged 1 2 most_slots 1 before w
  collection_judged before first = judged_both before v w 0 1 1 1 1 2 most_slots 0 most_slots 1 first one_judged (omega arith) (omega arith) (omega arith)

-- the end of a marking
pub major_judged : (v w : HeapView) (roots stack : List ℕ) (scans : ℕ) → IsHeapVerdict v w Major roots stack scans → IsQuiescent w → HasJudged 0 1 0 0 v w
major_judged v w roots stack scans verdict quiescent = judged_by v w Major roots stack scans verdict quiescent 0 1 (omega arith) (omega arith)

-- sweeps free slots alone
pub swept_judged : (v w : HeapView) → LeavesRest v w → w.counters.freed ≤ v.counters.freed + most_slots → IsQuiescent w → IsAtRest v →
    HasJudged 0 0 most_slots 0 v w
swept_judged v w leaves freed quiescent rests =
    let minors = ap (λ (c : Counters). c.minor_verdicts) leaves.counters in
    let others = ap (λ (c : Counters). c.other_verdicts) leaves.counters in
    let compactions = ap (λ (c : Counters). c.compactions) leaves.counters in
    let moves = ap (λ (c : Counters). c.moves) leaves.counters in
    record {
      born = ap (λ (c : Counters). c.born) leaves.counters;
      minor_verdicts = omega arith;
      other_verdicts = omega arith;
      freed = freed;
      compactions = omega arith;
      moves = omega arith;
      page_count = leaves.page_count;
      limit = leaves.limit;
      quiescent = quiescent;
      rests = (
        λ e. ⊎_elim (λ same. rests.0 (sym same ∙ e)) (λ idle. cc) leaves.phase,
        λ e. ⊎_elim (λ same. rests.1 (sym same ∙ e)) (λ idle. cc) leaves.phase,
      );
    }

-- after a completion a whole verdict and the sweeps of all pages make what `exit` does to a heap
pub exit_judged : (old idle judged new : HeapView) (roots stack : List ℕ) (scans : ℕ) → HasJudged 0 1 most_slots 1 old idle →
    IsHeapVerdict idle judged Full roots stack scans → IsQuiescent judged → LeavesRest judged new →
    new.counters.freed ≤ judged.counters.freed + most_slots → IsQuiescent new → HasJudged 0 2 (2 * most_slots) 1 old new
exit_judged old idle judged new roots stack scans first verdict quiescent leaves freed quiescent_after =
    let second = judged_by idle judged Full roots stack scans verdict quiescent 0 1 (omega arith) (omega arith) in
    let third = swept_judged judged new leaves freed quiescent_after second.rests in
    judged_both old judged new 0 0 0 2 0 2 most_slots most_slots (2 * most_slots) 1
    (judged_both old idle judged 0 0 0 1 1 2 most_slots 0 most_slots 1 first second (omega arith) (omega arith) (omega arith))
    third (omega arith) (omega arith) (omega arith)

-- where nothing is under way a marking of each other kind may begin
pub begins_idle : (kind : Kind) (phase : Phase) → kind ≢ Major → phase ≡ Idle → phase ≡ phase_before kind
begins_idle Minor phase other idle = idle
begins_idle Major phase other idle = absurd (other refl)
begins_idle Full phase other idle = idle
