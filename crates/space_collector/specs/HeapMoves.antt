-- Moves of a heap, and the events that tell of them.
use Rattle.std.specs.Prelude.{◌≡◌, ◌↔◌, ℕ, zero, suc, ◌+◌, ◌<◌, ◌≤◌, Bool, true, List, [], ◌∷◌, length, map, Option, Result, OnOk, OnErr}
use Rattle.std.specs.Io.KnownBytes.{Appends}
use Rattle.space_io.specs.Sinks.{AppendsPrefix}
use Rattle.space_model.specs.declared.event.Event.{Event}
use Rattle.space_model.specs.declared.event.Event.TheVariants.{Moved as MovedEvent}
use Rattle.space_model.specs.Outputs.{Told}
use Rattle.space_model.specs.Texts.{text_of}
use Rattle.space_heap.specs.HeapView.{HeapView}
use Rattle.space_heap.specs.SoundHeap.{IsSoundHeap}
use Rattle.space_compact.specs.declared.moving.Moved.{Moved}
use Rattle.space_compact.specs.Moves.{IsPacked, Moves}
use Rattle.space_compact.specs.Pins.{PinsNow}
use Rattle.space_collector.specs.Quiescent.{most_slots}

-- so many moves, one after another, each the next one by the heap's pins, and told by an event
abbrev pub MovesTold : ℕ → HeapView → List Event → HeapView → Type 0
MovesTold zero v events w = (events ≡ []) × (w ≡ v)
MovesTold (suc count) v events w =
    (moved : Moved) × (later : List Event) × (mid : HeapView) × (events ≡ MovedEvent moved.name moved.from moved.to ∷ later) × Moves v mid moved
    × MovesTold count mid later w

-- what is pinned was pinned anew, and then so many moves were made, at most `count`, or fewer where the heap is packed before; and whether it is
-- packed then
pub record IsMoving (old new : HeapView) (stack : List ℕ) (count moves : ℕ) (done : Bool) (events : List Event) : Type 0 where
  pub pinned : HeapView
  pub pins : PinsNow old pinned stack
  -- of every heap this holds
  pub pinned_sound : IsSoundHeap pinned
  pub makes : MovesTold moves pinned events new
  pub at_most : moves ≤ count
  pub all : moves < count → IsPacked new
  pub done_is : (done ≡ true) ↔ IsPacked new
  -- each of them leaves a slot of its own
  pub few : moves ≤ most_slots
  pub sound : IsSoundHeap new

-- moves of which this holds were made, and the events that tell of them were written, or a prefix of them where a write failed
pub record AreMovesTold {T E : Type 0} (old new : HeapView) (stack : List ℕ) (count moves : ℕ) (done : Bool) (result : Result T E)
    (before after : Option (List ℕ)) : Type 0 where
  pub events : List Event
  pub moving : IsMoving old new stack count moves done events
  pub written : OnOk result (Appends before after (text_of (map Told events)))
  pub prefix : OnErr result (AppendsPrefix before after (text_of (map Told events)))

-- a heap after moves: only slots changed, and so many moves more are counted
pub record KeepsBut (old new : HeapView) (moves : ℕ) : Type 0 where
  pub counters : new.counters ≡ record old.counters { moves = old.counters.moves + moves }
  pub phase : new.phase ≡ old.phase
  pub cursor : new.cursor ≡ old.cursor
  pub limit : new.limit ≡ old.limit
  pub unswept : new.unswept ≡ old.unswept
  pub grey : new.grey ≡ old.grey
  pub page_count : length new.pages ≡ length old.pages
