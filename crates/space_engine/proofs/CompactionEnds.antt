-- The completion of a compaction whose objects may still move, from what was done to the heap and what was written.
use Rattle.std.proofs.Common.{◌≡◌, ◌<◌, ℕ, Bool, List, map, subst, arith, Option, Result, Ok, Err}
use Rattle.std.specs.Prelude.{OnOk, OnErr}
use Rattle.std.specs.Io.KnownBytes.{Appends}
use Rattle.space_io.specs.Sinks.{AppendsPrefix}
use Rattle.space_model.specs.declared.event.Event.{Event}
use Rattle.space_model.specs.Outputs.{Told}
use Rattle.space_model.specs.Texts.{text_of}
use Rattle.space_heap.specs.HeapView.{HeapView}
use Rattle.space_collector.specs.HeapMoves.{AreMovesTold, IsMoving}
use Rattle.space_collector.specs.Quiescent.{most_slots}
use Rattle.space_engine.specs.HeapCollections.{AreTold, AreCut, CompletesFixes, CompletesMoves}
use Rattle.space_engine.specs.Views.{View, with_heap, fixing_begun}
use Rattle.space_engine.proofs.OutputLists.{moves_counted}

-- more moves were asked for than there can be, so the heap is packed; and then all references were corrected
module _ (v new : View) (w : HeapView) (count moves : ℕ) (done : Bool) (many : most_slots < count)
    (fixes : CompletesFixes (fixing_begun (with_heap v w)) new) where
  completes_moves : (events : List Event) → IsMoving v.heap w v.stack count moves done events → CompletesMoves v new events
  completes_moves events made = record {
    packed = w;
    count = count;
    moves = moves;
    done = done;
    makes = made;
    all = made.all (let few = made.few in omega (arith, few, many));
    fixes = fixes;
  }

  module _ {T E : Type 0} (result : Result T E) (before after : Option (List ℕ))
      (told : AreMovesTold v.heap w v.stack count moves done result before after) where
    pub moves_told : (it : T) → result ≡ Ok it → AreTold (CompletesMoves v new) 0 moves before after
    moves_told it is = record {
      events = told.events;
      are = completes_moves told.events told.moving;
      counted = moves_counted moves told.moving.pinned told.events w told.moving.makes;
      written = subst (λ result. OnOk result (Appends before after (text_of (map Told told.events)))) is told.written;
    }

    pub moves_cut : (why : E) → result ≡ Err why → AreCut (CompletesMoves v new) before after
    moves_cut why is = record {
      events = told.events;
      are = completes_moves told.events told.moving;
      prefix = subst (λ result. OnErr result (AppendsPrefix before after (text_of (map Told told.events)))) is told.prefix;
    }
