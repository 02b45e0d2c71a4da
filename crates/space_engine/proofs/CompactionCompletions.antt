-- The completion of a compaction is one of each state that the space stands for.
use Rattle.std.proofs.Common.{◌≡◌, ◌∙◌, ◌<◌, ◌^◌, List, map, refl, sym, subst}
use Rattle.space_model.specs.declared.event.Event.{Event}
use Rattle.space_model.specs.declared.phase.Phase.TheVariants.{Moving, Fixing}
use Rattle.space_model.specs.Compaction.{MovesAll, FixesAll, fixing_begun as state_fixing, compaction_ended as state_ended}
use Rattle.space_model.specs.Outputs.{Told}
use Rattle.space_model.specs.State.{State}
use Rattle.space_model.specs.Texts.{AreSpelled}
use Rattle.space_model.proofs.CompactionNames.{moves_phase}
use Rattle.space_engine.specs.HeapCollections.{CompletesMoves, CompletesFixes}
use Rattle.space_engine.specs.Stands.{Holds}
use Rattle.space_engine.specs.Views.{View, with_heap, fixing_begun}
use Rattle.space_engine.proofs.EndedCompaction.{compaction_ended_held}
use Rattle.space_engine.proofs.MovesHeld.{moves_held, moves_spelled}
use Rattle.space_engine.proofs.PhaseChanges.{fixing_begun_held}
use Rattle.space_engine.proofs.VisitsHeld.{visits_held, none_left}

-- the state after all references were corrected
pub record FixesTo (s : State) (new : View) : Type 0 where
  pub state : State
  pub completes : FixesAll s state
  pub holds : Holds new state

-- the state after all moves, and the correction of all references
pub record MovesAllTo (s : State) (new : View) (events : List Event) : Type 0 where
  pub state : State
  pub completes : MovesAll s events state
  pub holds : Holds new state

pub fixes_completed : (v : View) (s : State) → Holds v s → s.collector.phase ≡ Fixing → (new : View) → CompletesFixes v new → FixesTo s new
fixes_completed v s h at new c =
    let made = visits_held v s h at c.visits c.fixed c.makes in
    let none = none_left (with_heap v c.fixed) made.state made.holds c.all in
    record {
      state = state_ended made.state;
      completes = record { visits = c.visits; last = made.state; visits_are = made.makes; all = none; after = refl };
      holds = subst (λ (w : View). Holds w (state_ended made.state)) (sym c.ends)
          (compaction_ended_held (with_heap v c.fixed) made.state made.holds made.fixing none c.sound);
    }

pub moves_completed : (v : View) (s : State) → Holds v s → s.collector.phase ≡ Moving → (new : View) (events : List Event) → CompletesMoves v new events →
    MovesAllTo s new events
moves_completed v s h at new events c =
    let made = moves_held v s h c.packed c.count c.moves c.done events c.makes at in
    let still = moves_phase c.moves s events made.state made.makes.makes ∙ at in
    let packed = made.makes.done_is.0 (c.makes.done_is.1 c.all) in
    let begun = fixing_begun_held (with_heap v c.packed) made.state made.holds still in
    let fixed = fixes_completed (fixing_begun (with_heap v c.packed)) (state_fixing made.state) begun refl new c.fixes in
    record {
      state = fixed.state;
      completes = record { moves = c.moves; last = made.state; makes = made.makes.makes; packed = packed; fixes = fixed.completes };
      holds = fixed.holds;
    }

-- the lines of the moves can be written
pub moving_spelled : (v : View) (s : State) → Holds v s → s.collector.phase ≡ Moving → (new : View) (events : List Event) → CompletesMoves v new events →
    v.heap.counters.born < 2 ^ 62 → AreSpelled (map Told events)
moving_spelled v s h at new events c few = moves_spelled v s h c.packed c.count c.moves c.done events c.makes few
