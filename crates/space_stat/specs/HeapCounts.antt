-- The twelve counts of a heap.
use Rattle.std.specs.Prelude.{◌≡◌, ◌+◌, length}
use Rattle.space_model.specs.declared.stat.Stat.{Stat}
use Rattle.space_model.specs.Counts.{CountIs}
use Rattle.space_heap.specs.HeapView.{HeapView}
use Rattle.space_heap.specs.SlotCounts.{IsLive, IsVacant, IsOldObject, IsKeptObject}

-- the twelve numbers are those of the heap; objects and free slots are counted by the addresses at which they start
pub record AreHeapCounts (v : HeapView) (stat : Stat) : Type 0 where
  pub count : stat.count ≡ stat.minor_gc_count + stat.major_gc_count
  pub minor_verdicts : stat.minor_gc_count ≡ v.counters.minor_verdicts
  -- major and full ones
  pub other_verdicts : stat.major_gc_count ≡ v.counters.other_verdicts
  -- spare ones too
  pub pages : stat.heap_allocated_pages ≡ length v.pages
  -- objects that aren't gone
  pub live : CountIs (IsLive v) stat.heap_live_slots
  -- on pages that wait for a sweep too
  pub free : CountIs (IsVacant v) stat.heap_free_slots
  pub allocated : stat.total_allocated_objects ≡ v.counters.born
  -- slots that sweeps made free
  pub freed : stat.total_freed_objects ≡ v.counters.freed
  pub old : CountIs (IsOldObject v) stat.old_objects
  pub kept : CountIs (IsKeptObject v) stat.remembered_wb_unprotected_objects
  pub compactions : stat.compact_count ≡ v.counters.compactions
  pub moves : stat.total_moved_objects ≡ v.counters.moves
