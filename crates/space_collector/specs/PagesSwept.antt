-- The heap and the finalizers after pages that waited were swept, one after another.
use Rattle.std.specs.Prelude.{◌≡◌, ◌⊎◌, ℕ, zero, suc, List, [], length}
use Rattle.space_model.specs.declared.phase.Phase.TheVariants.{Idle}
use Rattle.space_finals.specs.FinalLists.{FinalLists, QueuesNames}
use Rattle.space_heap.specs.FreeSlots.{HasNoFree}
use Rattle.space_heap.specs.HeapView.{HeapView}
use Rattle.space_sweep.specs.Sweeps.{SweepsFirst}
use Rattle.space_collector.specs.GoneNames.{AreGoneOn}

-- the lowest page that waited was swept, and the finalizers of its gone objects were queued, in ascending order of address
pub record SweepsPage (v : HeapView) (f : FinalLists) (w : HeapView) (g : FinalLists) : Type 0 where
  pub freed : ℕ
  pub sweeps : SweepsFirst v w freed
  pub names : List ℕ
  pub gone : AreGoneOn v sweeps.page names
  pub queues : QueuesNames f names g

-- so many pages were swept, each time the lowest that waited
abbrev pub SweepsPages : ℕ → HeapView → FinalLists → HeapView → FinalLists → Type 0
SweepsPages zero v f w g = (w ≡ v) × (g ≡ f)
SweepsPages (suc pages) v f w g = (mid : HeapView) × (between : FinalLists) × SweepsPage v f mid between × SweepsPages pages mid between w g

-- every page that waited was swept
abbrev pub SweepsAll : HeapView → FinalLists → HeapView → FinalLists → Type 0
SweepsAll v f w g = SweepsPages (length v.unswept) v f w g

-- so many pages were swept, each since no address was free for the pool
abbrev pub SweepsInNeed : ℕ → HeapView → FinalLists → ℕ → HeapView → FinalLists → Type 0
SweepsInNeed zero v f pool w g = (w ≡ v) × (g ≡ f)
SweepsInNeed (suc pages) v f pool w g =
    HasNoFree v pool × (mid : HeapView) × (between : FinalLists) × SweepsPage v f mid between × SweepsInNeed pages mid between pool w g

-- pages were swept in need until an address was free for the pool, or none waited
pub record SweepsUntilFree (v : HeapView) (f : FinalLists) (w : HeapView) (g : FinalLists) (pool : ℕ) : Type 0 where
  pub pages : ℕ
  pub sweeps : SweepsInNeed pages v f pool w g
  pub ends : HasNoFree w pool → w.unswept ≡ []

-- what sweeps leave as it was: but for the freed slots the counts, how many pages there are and may be, and the phase while pages wait
pub record LeavesRest (v w : HeapView) : Type 0 where
  pub counters : w.counters ≡ record v.counters { freed = w.counters.freed }
  pub page_count : length w.pages ≡ length v.pages
  pub limit : w.limit ≡ v.limit
  pub phase : (w.phase ≡ v.phase) ⊎ (w.phase ≡ Idle)
