-- The completion of what is under way, and a collection, the completion and then a verdict, are those of each state that the space stands for.
use Rattle.std.proofs.Common.{◌≡◌, ◌≢◌, ◌⊎◌, ◌<◌, ◌^◌, ℕ, List, [], length, map, refl, sym, ap, ◌∙◌, subst, arith, ⊎_elim, inl, inr}
use Rattle.space_model.specs.declared.event.Event.{Event}
use Rattle.space_model.specs.declared.event.Kind.{Kind}
use Rattle.space_model.specs.declared.event.Kind.TheVariants.{Major}
use Rattle.space_model.specs.declared.phase.Phase.{Phase}
use Rattle.space_model.specs.declared.phase.Phase.TheVariants.{Idle, Marking, Sweeping, Moving, Fixing}
use Rattle.space_model.specs.Collections.{IsCollection}
use Rattle.space_model.specs.Completions.{CompletesIn, Completes}
use Rattle.space_model.specs.Graph.{Item}
use Rattle.space_model.specs.Markings.{mark_started, took}
use Rattle.space_model.specs.Moments.{noted}
use Rattle.space_model.specs.Outputs.{Told}
use Rattle.space_model.specs.State.{State}
use Rattle.space_model.specs.Sweeps.{Sweeps, SweepAll}
use Rattle.space_model.specs.Texts.{AreSpelled}
use Rattle.space_model.proofs.CollectionsKept.{Sound-mark_started}
use Rattle.space_model.proofs.WholeLaws.{completed_idle, leaves_completed, Sound-collection}
use Rattle.space_finals.specs.FinalLists.{FinalLists}
use Rattle.space_heap.specs.HeapView.{HeapView}
use Rattle.space_heap.specs.SoundHeap.{IsSoundHeap}
use Rattle.space_heap.specs.Sweeping.{HasNoGone}
use Rattle.space_roots.specs.WordRoots.{root_words}
use Rattle.space_collector.specs.GoneNames.{gone_names}
use Rattle.space_collector.specs.PagesSwept.{SweepsAll}
use Rattle.space_collector.proofs.HeapSweeps.{sweeps_none}
use Rattle.space_engine.specs.HeapCollections.{EndsAndSweeps, IsHeapCompletion, IsCompletion, IsCollected}
use Rattle.space_engine.specs.Stands.{Represents, Holds}
use Rattle.space_engine.specs.Ticks.{AreCompletionScans, IsResting}
use Rattle.space_engine.specs.Turns.{IsAtRest}
use Rattle.space_engine.specs.Views.{View, with_swept, with_judged}
use Rattle.space_engine.proofs.CompactionCompletions.{moves_completed, fixes_completed, moving_spelled}
use Rattle.space_engine.proofs.CollectionVerdicts.{VerdictOf, collection_verdict}
use Rattle.space_engine.proofs.Ending.{EndsTo, ends_to, ending_spelled, telling_spelled}
use Rattle.space_engine.proofs.OutputLists.{spelled_both}
use Rattle.space_engine.proofs.Purges.{completed_view, completed_as, completed_unmarked, completed_marking}
use Rattle.space_engine.proofs.SweptPages.{SweepsTo, swept_pages_hold}
use Rattle.space_engine.proofs.WholeVerdicts.{none_gone_in}

-- what may be under way where no object moves
pub phase_at_rest : (phase : Phase) → phase ≢ Moving → phase ≢ Fixing → (phase ≡ Idle) ⊎ ((phase ≡ Marking) ⊎ (phase ≡ Sweeping))
phase_at_rest Idle moving fixing = inl refl
phase_at_rest Marking moving fixing = inr (inl refl)
phase_at_rest Sweeping moving fixing = inr (inr refl)
phase_at_rest Moving moving fixing = absurd (moving refl)
phase_at_rest Fixing moving fixing = absurd (fixing refl)

-- what the space stands for after every page that waits was swept
pub record SweepsAllTo (v : View) (s : State) (z : HeapView) (g : FinalLists) : Type 0 where
  pub freed : List ℕ
  pub state : State
  pub sweeps : SweepAll s freed state
  pub holds : Holds (with_swept v z g) state

pub swept_all_hold : (v : View) (s : State) (z : HeapView) (g : FinalLists) → Holds v s → IsSoundHeap v.heap → SweepsAll v.heap v.finals z g →
    SweepsAllTo v s z g
swept_all_hold v s z g h sound sweeps =
    let to : SweepsTo v s z g (length v.heap.unswept) = swept_pages_hold (length v.heap.unswept) v s z g h sound sweeps in
    record {
      freed = to.freed;
      state = to.state;
      sweeps = subst (λ pages. Sweeps pages s to.freed to.state) (ap length (sym h.represents.heap.pages.waiting)) to.sweeps;
      holds = to.holds;
    }

-- where nothing is under way no page waits
pub none_waits : (v : View) (s : State) → Holds v s → v.heap.phase ≡ Idle → v.heap.unswept ≡ []
none_waits v s h nothing = let at = h.represents.heap.progress.at in sym h.represents.heap.pages.waiting ∙ h.sound.sweep.none (λ e. cc)

-- the state after what was under way was completed, and that it is what the space stands for then
pub record CompletesTo (idle : View) (s : State) (scans : ℕ) (events : List Event) : Type 0 where
  pub state : State
  pub completes : Completes s events state
  pub scans_are : AreCompletionScans s scans
  pub holds : Holds idle state
  pub at_idle : state.collector.phase ≡ Idle

module _ (v : View) (s : State) (h : Holds v s) (rests : IsAtRest v.heap) (idle : HeapView) (g : FinalLists) (scans : ℕ) (events : List Event)
    (c : IsHeapCompletion v.heap v.finals idle g (root_words v.roots) v.stack scans events) where
  is_at : (phase : Phase) → v.heap.phase ≡ phase → s.collector.phase ≡ phase
  is_at phase at = sym h.represents.heap.progress.at ∙ at

  completed_to : (state : State) → Completes s events state → AreCompletionScans s scans → Holds (completed_view v idle g) state →
      CompletesTo (completed_view v idle g) s scans events
  completed_to state completes scans_are holds = record {
    state = state;
    completes = completes;
    scans_are = scans_are;
    holds = holds;
    at_idle = completed_idle s state events completes h.sound;
  }

  -- outside a marking nothing was purged
  unmarked_holds : (state : State) → v.heap.phase ≢ Marking → Holds (with_swept v idle g) state → Holds (completed_view v idle g) state
  unmarked_holds state other holds = subst (λ (w : View). Holds w state) (sym (completed_unmarked v idle g other)) holds

  -- and nothing was scanned
  no_scans : v.heap.phase ≢ Marking → AreCompletionScans s scans
  no_scans other = record {
    marking = λ marking. absurd (other (h.represents.heap.progress.at ∙ marking));
    others = λ rests resting. (c.others other).no_scans;
  }

  -- where nothing is under way no page waits, so nothing was done
  completes_nothing : v.heap.phase ≡ Idle → CompletesTo (completed_view v idle g) s scans events
  completes_nothing nothing =
      let other : v.heap.phase ≢ Marking = λ e. cc in
      let only = c.others other in
      let at = is_at Idle nothing in
      let (same, none) = sweeps_none v.heap v.finals idle g (none_waits v s h nothing) only.sweeps in
      let is : v ≡ with_swept v idle g = λ i. with_swept v (sym same i) (sym none i) in
      completed_to s (subst (λ phase. CompletesIn phase s events s) (sym at) (only.no_events, refl)) (no_scans other)
      (unmarked_holds s other (subst (λ (w : View). Holds w s) is h))

  completes_sweeps : v.heap.phase ≡ Sweeping → CompletesTo (completed_view v idle g) s scans events
  completes_sweeps sweeping =
      let other : v.heap.phase ≢ Marking = λ e. cc in
      let only = c.others other in
      let at = is_at Sweeping sweeping in
      let swept : SweepsAllTo v s idle g = swept_all_hold v s idle g h only.sound only.sweeps in
      completed_to swept.state (subst (λ phase. CompletesIn phase s events swept.state) (sym at) (swept.freed, only.no_events, swept.sweeps))
      (no_scans other) (unmarked_holds swept.state other swept.holds)

  completes_marking : v.heap.phase ≡ Marking → CompletesTo (completed_view v idle g) s scans events
  completes_marking marking =
      let both : EndsAndSweeps v.heap v.finals idle g (root_words v.roots) v.stack scans events = c.marking marking in
      let at = is_at Marking marking in
      let ended : EndsTo v s both.judged scans events = ends_to v s h marking both.judged scans events both.tells in
      let swept : SweepsAllTo (with_judged v both.judged) ended.state idle g =
      swept_all_hold (with_judged v both.judged) ended.state idle g ended.holds both.tells.verdict.sound both.sweeps in
      completed_to swept.state
      (subst (λ phase. CompletesIn phase s events swept.state) (sym at) (record {
        taken = ended.ends.taken;
        judged = ended.state;
        verdict = ended.ends.verdict;
        freed = swept.freed;
        sweeps = swept.sweeps;
      }))
      (record { marking = λ e. (events, ended.state, ended.ends); others = λ other resting. absurd (other at) })
      (subst (λ (w : View). Holds w swept.state) (sym (completed_marking v both.judged idle g marking both.sweeps)) swept.holds)

  at_rest_to : CompletesTo (completed_view v idle g) s scans events
  at_rest_to = ⊎_elim completes_nothing (⊎_elim completes_marking completes_sweeps) (phase_at_rest v.heap.phase rests.0 rests.1)

  nothing_spelled : events ≡ [] → AreSpelled (map Told events)
  nothing_spelled none = subst (λ events. AreSpelled (map Told events)) (sym none) tt

  -- its lines can be written
  at_rest_spelled : v.heap.counters.born < 2 ^ 62 → AreSpelled (map Told events)
  at_rest_spelled few = ⊎_elim
      (λ nothing. nothing_spelled (c.others (λ e. cc)).no_events)
      (⊎_elim
      (λ marking. let both = c.marking marking in ending_spelled v s h marking both.judged scans events both.tells few)
      (λ sweeping. nothing_spelled (c.others (λ e. cc)).no_events))
      (phase_at_rest v.heap.phase rests.0 rests.1)

-- what was under way was completed
module _ (v : View) (s : State) (h : Holds v s) (idle : View) (scans : ℕ) (events : List Event) (c : IsCompletion v idle scans events) where
  in_phase : (phase : Phase) → v.heap.phase ≡ phase → s.collector.phase ≡ phase
  in_phase phase at = sym h.represents.heap.progress.at ∙ at

  by_rest : IsAtRest v.heap → CompletesTo idle s scans events
  by_rest rests =
      let at_rest = c.rests rests in
      let to = at_rest_to v s h rests idle.heap idle.finals scans events at_rest.heap in
      record {
        state = to.state;
        completes = to.completes;
        scans_are = to.scans_are;
        holds = subst (λ (w : View). Holds w to.state) (sym (completed_as v idle at_rest.rest)) to.holds;
        at_idle = to.at_idle;
      }

  -- in a compaction nothing is said of the reads
  any_reads : (phase : Phase) → v.heap.phase ≡ phase → phase ≢ Marking → (IsResting s → ⊥) → AreCompletionScans s scans
  any_reads phase at other compacts = record {
    marking = λ marking. absurd (other (sym at ∙ h.represents.heap.progress.at ∙ marking));
    others = λ rests resting. absurd (compacts resting);
  }

  by_moving : v.heap.phase ≡ Moving → CompletesTo idle s scans events
  by_moving moving =
      let at = in_phase Moving moving in
      let to = moves_completed v s h at idle events (c.moving moving) in
      record {
        state = to.state;
        completes = subst (λ phase. CompletesIn phase s events to.state) (sym at) to.completes;
        scans_are = any_reads Moving moving (λ e. cc) (λ resting. resting.0 at);
        holds = to.holds;
        at_idle = sym to.holds.represents.heap.progress.at ∙ c.idle;
      }

  by_fixing : v.heap.phase ≡ Fixing → CompletesTo idle s scans events
  by_fixing fixing =
      let at = in_phase Fixing fixing in
      let its = c.fixing fixing in
      let to = fixes_completed v s h at idle its.1 in
      record {
        state = to.state;
        completes = subst (λ phase. CompletesIn phase s events to.state) (sym at) (its.0, to.completes);
        scans_are = any_reads Fixing fixing (λ e. cc) (λ resting. resting.1 at);
        holds = to.holds;
        at_idle = sym to.holds.represents.heap.progress.at ∙ c.idle;
      }

  pub completes_to : CompletesTo idle s scans events
  completes_to = by v.heap.phase refl
    where
      by : (phase : Phase) → v.heap.phase ≡ phase → CompletesTo idle s scans events
      by Moving at = by_moving at
      by Fixing at = by_fixing at
      by _ at = by_rest ((λ e. cc), (λ e. cc))

  pub completion_spelled : v.heap.counters.born < 2 ^ 62 → AreSpelled (map Told events)
  completion_spelled few = by v.heap.phase refl
    where
      by : (phase : Phase) → v.heap.phase ≡ phase → AreSpelled (map Told events)
      by Moving at = moving_spelled v s h (in_phase Moving at) idle events (c.moving at) few
      by Fixing at = subst (λ events. AreSpelled (map Told events)) (sym (c.fixing at).0) tt
      by _ at =
          let rests : IsAtRest v.heap = ((λ e. cc), (λ e. cc)) in
          at_rest_spelled v s h rests idle.heap idle.finals scans events (c.rests rests).heap few

-- the state after a collection, and what the space stands for then
pub record CollectsTo (new : View) (s : State) (kind : Kind) (ended scans : ℕ) (events : List Event) : Type 0 where
  pub state : State
  pub collects : IsCollection s kind events scans state
  pub ended_are : AreCompletionScans s ended
  pub holds : Holds new state

module _ (v : View) (s : State) (h : Holds v s) (new : View) (kind : Kind) (other : kind ≢ Major)
    (ended scans : ℕ) (events : List Event) (c : IsCollected v new kind ended scans events) where
  completed : CompletesTo c.idle s ended c.completion
  completed = completes_to v s h c.idle ended c.completion c.completes

  abbrev idle : State
  idle = completed.state

  clean : HasNoGone c.idle.heap
  clean = none_gone_in c.idle idle completed.holds (λ e. let at = completed.at_idle in cc)

  given : VerdictOf c.idle idle new.heap kind scans
  given =
      let at = completed.at_idle in
      let rest = completed.holds.sound.resting (λ e. cc) (λ e. cc) in
      collection_verdict c.idle idle new.heap kind scans completed.holds clean rest.0 rest.1 other (λ e. cc) c.tells.verdict

  -- the state after the verdict
  abbrev settled : State
  settled = noted (took (mark_started idle) kind (gone_names new.heap))

  collection : IsCollection s kind events scans settled
  collection = record {
    idle = idle;
    completion = c.completion;
    completes = completed.completes;
    marked = mark_started idle;
    starts = refl;
    taken = gone_names new.heap;
    told = c.told;
    verdict = record { verdict = given.verdict; takes = refl; events_are = c.tells.events_are };
    scans_are = given.scans_are;
    events_are = c.events_are;
  }

  pub collects_to : CollectsTo new s kind ended scans events
  collects_to = record {
    state = settled;
    collects = collection;
    ended_are = completed.scans_are;
    holds = record {
      represents = subst (λ (w : View). Represents w settled) (sym c.judged) given.represents;
      sound = Sound-collection s settled kind events scans collection h.sound;
    };
  }

  -- its lines can be written: a completion allocates nothing
  pub collection_spelled : v.heap.counters.born < 2 ^ 62 → AreSpelled (map Told events)
  collection_spelled few =
      let many = h.represents.heap.counted.allocated in
      let same = ap (λ (graph : List Item). length graph) (leaves_completed s idle c.completion completed.completes).graph in
      subst (λ events. AreSpelled (map Told events)) (sym c.events_are)
      (spelled_both c.completion c.told
      (completion_spelled v s h c.idle ended c.completion c.completes few)
      (telling_spelled c.idle.heap new.heap kind (root_words c.idle.roots) c.idle.stack scans c.told c.tells (mark_started idle)
      (Sound-mark_started idle completed.holds.sound) given.verdict (omega (arith, many, same, few))))
