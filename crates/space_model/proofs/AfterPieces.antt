-- A state after a piece of work is sound where its parts are: what is noted after it makes the rest so.
use Rattle.std.proofs.Common.{◌≡◌, length, nat_eq, refl, subst, sym, List}
use Rattle.std.specs.List.{IsDistinct}
use Rattle.space_model.specs.declared.phase.Phase.TheVariants.{Marking}
use Rattle.space_model.specs.Graph.{Item}
use Rattle.space_model.specs.Moments.{noted}
use Rattle.space_model.specs.Sound.{Sound, SoundLayout, SoundCorpses, SoundSweep, SoundUsed, SoundResting, SoundCursor, SoundLeft, SoundStale, SoundMoves, SoundNames, SoundKept, SoundMoments, AreSoundItems, AreSoundRoots}
use Rattle.space_model.specs.State.{State, Heap, Collector, Tables}
use Rattle.space_model.proofs.MarkingKept.{IsMarkingSound, SoundMarking-noted}
use Rattle.space_model.proofs.MovesKept.{SoundMoves-same}
use Rattle.space_model.proofs.NotedLaws.{SoundMoments-noted}
use Rattle.space_model.proofs.TablesKept.{SoundTables}

-- what is asked of where objects stand, and of what the collector is at
pub record SoundHeap (graph : List Item) (heap : Heap) (collector : Collector) : Type 0 where
  pub layout : SoundLayout graph heap.place heap.pages heap.limit
  pub corpses : SoundCorpses graph heap.place heap.corpses heap.pages heap.unswept
  pub sweep : SoundSweep collector.phase heap.pages heap.unswept
  pub used : SoundUsed collector.phase heap.pages heap.unswept heap.place
  pub resting : SoundResting collector.phase heap.left collector.stale
  pub cursor : SoundCursor collector.phase collector.cursor
  pub left : SoundLeft graph heap.place heap.corpses heap.left heap.pages
  pub stale : SoundStale graph heap.place heap.left collector.stale collector.cursor
  pub kept : SoundKept graph heap.place collector.kept
  pub outlived : length collector.outlived ≡ length graph

-- all that is asked of a sound state but for what was noted
pub record SoundParts (s : State) : Type 0 where
  pub heap : SoundHeap s.graph s.heap s.collector
  pub moves : SoundMoves s
  pub names : SoundNames s.graph s.roots s.heap.place
  pub items : AreSoundItems s.graph
  pub roots : AreSoundRoots s.roots
  pub tables : SoundTables s.graph s.heap.place s.heap.corpses s.tables
  pub once : IsDistinct nat_eq s.history.seen
  pub marking : s.collector.phase ≡ Marking → IsMarkingSound s

pub heap_of : (s : State) → Sound s → SoundHeap s.graph s.heap s.collector
heap_of s h = record {
  layout = h.layout;
  corpses = h.corpses;
  sweep = h.sweep;
  used = h.used;
  resting = h.resting;
  cursor = h.cursor;
  left = h.left;
  stale = h.stale;
  kept = h.kept;
  outlived = h.outlived;
}

pub tables_of : (s : State) → Sound s → SoundTables s.graph s.heap.place s.heap.corpses s.tables
tables_of s h = record { ids = h.ids; weak = h.weak; finals = h.finals; queue = h.queue }

-- a state is sound where its parts are
pub sound_of : (s : State) → SoundHeap s.graph s.heap s.collector → SoundMoves s → SoundNames s.graph s.roots s.heap.place → AreSoundItems s.graph →
    AreSoundRoots s.roots → SoundTables s.graph s.heap.place s.heap.corpses s.tables → SoundMoments s → (s.collector.phase ≡ Marking → IsMarkingSound s) →
    Sound s
sound_of s heap moves names items roots tables moments marking = record {
  layout = heap.layout;
  corpses = heap.corpses;
  sweep = heap.sweep;
  used = heap.used;
  resting = heap.resting;
  cursor = heap.cursor;
  left = heap.left;
  stale = heap.stale;
  moves = moves;
  names = names;
  items = items;
  roots = roots;
  ids = tables.ids;
  weak = tables.weak;
  finals = tables.finals;
  queue = tables.queue;
  kept = heap.kept;
  outlived = heap.outlived;
  moments = moments;
  marking = marking;
}

pub after_piece : (u t : State) → t ≡ noted u → SoundParts u → Sound t
after_piece u t e h = subst Sound (sym e)
    (sound_of (noted u) h.heap (SoundMoves-same u (noted u) (λ e. e) refl refl h.moves) h.names h.items h.roots h.tables
    (SoundMoments-noted u h.once) (λ e. SoundMarking-noted u h.names (h.marking e)))

-- the state with these tables
abbrev pub tables_replaced : State → Tables → State
tables_replaced s tables = record s { tables = tables }

pub Sound-tables_replaced : (s t : State) (tables : Tables) → SoundTables s.graph s.heap.place s.heap.corpses tables → t ≡ tables_replaced s tables →
    Sound s → Sound t
Sound-tables_replaced s t tables sound e h = subst Sound (sym e) (sound_of (tables_replaced s tables) (heap_of s h)
    (SoundMoves-same s (tables_replaced s tables) (λ e. e) refl refl h.moves) h.names h.items h.roots sound
    (record { seen = h.moments.seen; once = h.moments.once; mixed = h.moments.mixed })
    h.marking)
