-- A move keeps what the heap stands for, and all that is kept of names beside it.
use Rattle.std.proofs.Common.{◌≡◌, ℕ, sym, ap, ◌∙◌, subst}
use Rattle.space_model.specs.declared.phase.Phase.TheVariants.{Marking, Moving}
use Rattle.space_model.specs.Compaction.{Moves1}
use Rattle.space_model.specs.State.{State}
use Rattle.space_heap.specs.HeapView.{HeapView}
use Rattle.space_heap.specs.Objects.{object_of}
use Rattle.space_heap.specs.Relocation.{relocated}
use Rattle.space_heap.specs.SoundHeap.{IsSoundHeap}
use Rattle.space_compact.specs.Moves.{IsMoveIn}
use Rattle.space_engine.specs.Colours.{HasColours}
use Rattle.space_engine.specs.Stands.{Holds, Represents, HeapRepresents, HasFinals}
use Rattle.space_engine.specs.Views.{View, with_heap}
use Rattle.space_engine.proofs.MovedNames.{generations_moved}
use Rattle.space_engine.proofs.MovedTables.{roots_moved, ids_moved, weak_moved}
use Rattle.space_engine.proofs.MovedObjects.{rest_moved}

-- the name that stands at `from` is moved to `to`, in the heap and in the state
module _ (v : View) (s : State) (h : Holds v s) (moving : s.collector.phase ≡ Moving) (sound : IsSoundHeap v.heap) (pool name from to : ℕ)
    (its : IsMoveIn v.heap pool from to) (named : name ≡ (object_of v.heap from).name) (t : State) (moves : Moves1 s name from to t) where
  abbrev w : HeapView
  w = relocated v.heap from to

  pub heap_moved : HeapRepresents t.graph t.heap t.collector t.counters (relocated v.heap from to)
  heap_moved =
      subst (λ (t : State). HeapRepresents t.graph t.heap t.collector t.counters w) (sym moves.after)
      (rest_moved s name from to moves.next moving h.sound v.heap h.represents.heap pool its.least.free)

  -- nothing is marked while objects move
  colours_moved : HasColours t.graph t.heap.place t.history t.collector.phase w
  colours_moved marking =
      let phase : t.collector.phase ≡ s.collector.phase = ap (λ (t : State). t.collector.phase) moves.after in
      let clash : Moving ≡ Marking = sym moving ∙ sym phase ∙ marking in
      absurd (cc)

  pub moved_represents : Represents (with_heap v (relocated v.heap from to)) t
  moved_represents = record {
    heap = heap_moved;
    generations = generations_moved v s h moving sound pool name from to its named t moves;
    colours = colours_moved;
    roots = roots_moved v s h moving sound pool name from to its named t moves;
    stack = ap (λ (t : State). t.stack) moves.after ∙ h.represents.stack;
    ids = ids_moved v s h moving sound pool name from to its named t moves;
    weak = weak_moved v s h moving sound pool name from to its named t moves;
    finals = subst (λ (t : State). HasFinals t.tables.finals t.tables.queue v.finals) (sym moves.after) h.represents.finals;
  }
