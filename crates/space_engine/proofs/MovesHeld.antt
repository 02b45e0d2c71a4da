-- After moves the space stands for the state after the same moves.
use Rattle.std.proofs.Common.{◌≡◌, ◌<◌, ◌^◌, ℕ, Bool, List, map, ◌∙◌, arith}
use Rattle.space_model.specs.declared.event.Event.{Event}
use Rattle.space_model.specs.declared.phase.Phase.TheVariants.{Moving}
use Rattle.space_model.specs.Compaction.{IsPacked as IsPackedState}
use Rattle.space_model.specs.CompactCommands.{MakesMoves}
use Rattle.space_model.specs.Outputs.{Told}
use Rattle.space_model.specs.State.{State}
use Rattle.space_model.specs.Texts.{AreSpelled}
use Rattle.space_model.proofs.CompactionNames.{moves_phase}
use Rattle.space_heap.specs.HeapView.{HeapView}
use Rattle.space_heap.specs.Objects.{object_of}
use Rattle.space_compact.specs.Moves.{IsPacked}
use Rattle.space_collector.specs.HeapMoves.{IsMoving}
use Rattle.space_collector.proofs.MoveEvents.{moving_spelled}
use Rattle.space_engine.specs.Stands.{Holds}
use Rattle.space_engine.specs.Views.{View, with_heap}
use Rattle.space_engine.proofs.PinnedNames.{holds_repinned, pins_now}
use Rattle.space_engine.proofs.MovedSpaces.{moves_both, packed_state, packed_heap}

-- the state after the moves
pub record MovesTo (s : State) (new : View) (count moves : ℕ) (done : Bool) (events : List Event) : Type 0 where
  pub state : State
  pub makes : MakesMoves s count events moves done state
  pub holds : Holds new state

module _ (v : View) (s : State) (h : Holds v s) (w : HeapView) (count moves : ℕ) (done : Bool) (events : List Event)
    (made : IsMoving v.heap w v.stack count moves done events) where
  pub moves_held : s.collector.phase ≡ Moving → MovesTo s (with_heap v w) count moves done events
  moves_held moving =
      let pinned : View = with_heap v made.pinned in
      let held : Holds pinned s = holds_repinned v s h moving made.pinned made.pins.same in
      let last = moves_both moves pinned s held moving made.pinned_sound (pins_now v s h made.pinned made.pins) events w made.makes in
      let still : last.state.collector.phase ≡ Moving = moves_phase moves s events last.state last.makes ∙ moving in
      let packed : IsPacked w → IsPackedState last.state = packed_state (with_heap v w) last.state last.holds still made.sound last.pins in
      record {
        state = last.state;
        makes = record {
          moving = moving;
          makes = last.makes;
          at_most = made.at_most;
          all = λ less. packed (made.all less);
          done_is = (
            λ e. packed (made.done_is.0 e),
            λ all. made.done_is.1 (packed_heap (with_heap v w) last.state last.holds still made.sound last.pins all),
          );
        };
        holds = last.holds;
      }

  -- the lines of the moves can be written
  pub moves_spelled : v.heap.counters.born < 2 ^ 62 → AreSpelled (map Told events)
  moves_spelled few = moving_spelled v.heap w v.stack count moves done events made (λ a stands.
      let last = (h.sound.layout.placed.allocated (object_of v.heap a).name a (h.represents.heap.objects.only a stands)).1 in
      let born = h.represents.heap.counted.allocated in
      omega (arith, last, born, few))
