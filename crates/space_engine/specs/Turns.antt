-- What holds of a space's heap between commands, and how far one command changes its counts.
use Rattle.std.specs.Prelude.{◌≡◌, ◌≢◌, ◌⊎◌, ℕ, ◌+◌, ◌*◌, ◌^◌, ◌≤◌, ◌<◌}
use Rattle.space_model.specs.declared.phase.Phase.TheVariants.{Moving, Fixing}
use Rattle.space_heap.specs.HeapView.{HeapView}
use Rattle.space_collector.specs.Quiescent.{IsQuiescent, most_slots}

-- no compaction is under way
abbrev pub IsAtRest : HeapView → Type 0
IsAtRest heap = (heap.phase ≢ Moving) × (heap.phase ≢ Fixing)

-- a compaction is under way
abbrev pub IsCompacting : HeapView → Type 0
IsCompacting heap = (heap.phase ≡ Moving) ⊎ (heap.phase ≡ Fixing)

-- what is under way can be completed, and a collection done after it
pub record CanCompleteAndCollect (heap : HeapView) : Type 0 where
  pub quiescent : IsQuiescent heap
  pub minor_verdicts : heap.counters.minor_verdicts < 2 ^ 62
  pub other_verdicts : heap.counters.other_verdicts < 2 ^ 61
  pub freed : heap.counters.freed < 2 ^ 61
  pub compactions : heap.counters.compactions < 2 ^ 61
  pub moves : heap.counters.moves < 2 ^ 60

-- one more command can be answered, whatever it is
pub record CanAnswer (heap : HeapView) : Type 0 where
  pub collect : CanCompleteAndCollect heap
  pub born : heap.counters.born < 2 ^ 62
  pub freed : heap.counters.freed < 2 ^ 60
  pub compactions : heap.counters.compactions < 2 ^ 60
  pub moves : heap.counters.moves < 2 ^ 59

-- a piece of work allocated one object at most, did a verdict that ends a marking and one of a collection at most, swept each page so many times at
-- most, ended so many compactions at most, each of which moves each slot once at most, and left a quiescent heap such
pub record IsWork (sweeps ended : ℕ) (old new : HeapView) : Type 0 where
  pub born : new.counters.born ≤ old.counters.born + 1
  pub minor_verdicts : new.counters.minor_verdicts ≤ old.counters.minor_verdicts + 1
  pub other_verdicts : new.counters.other_verdicts ≤ old.counters.other_verdicts + 2
  pub freed : new.counters.freed ≤ old.counters.freed + sweeps * most_slots
  pub compactions : new.counters.compactions ≤ old.counters.compactions + ended
  pub moves : new.counters.moves ≤ old.counters.moves + ended * most_slots
  pub quiescent : IsQuiescent old → IsQuiescent new

-- the same, where no object was allocated and no verdict done
pub record IsQuietWork (sweeps ended : ℕ) (old new : HeapView) : Type 0 where
  pub work : IsWork sweeps ended old new
  pub born : new.counters.born ≤ old.counters.born
  pub minor_verdicts : new.counters.minor_verdicts ≤ old.counters.minor_verdicts
  pub other_verdicts : new.counters.other_verdicts ≤ old.counters.other_verdicts

-- one command was answered: `new` sweeps for a slot, completes a compaction, completes and collects, and sweeps for a slot again
abbrev pub IsOneTurn : HeapView → HeapView → Type 0
IsOneTurn old new = IsWork 3 2 old new

-- the heap after so many commands: it is quiescent, and no count is higher than they can have made it
pub record IsWithinTurns (heap : HeapView) (turns : ℕ) : Type 0 where
  pub quiescent : IsQuiescent heap
  pub born : heap.counters.born ≤ turns
  pub minor_verdicts : heap.counters.minor_verdicts ≤ turns
  pub other_verdicts : heap.counters.other_verdicts ≤ turns * 2
  pub freed : heap.counters.freed ≤ turns * (3 * most_slots)
  pub compactions : heap.counters.compactions ≤ turns * 2
  pub moves : heap.counters.moves ≤ turns * (2 * most_slots)
