-- The space after an object was allocated for a root, or after pages were swept, a compaction completed and a collection done in vain.
use Rattle.std.specs.Prelude.{◌≡◌, ◌⊎◌, ℕ, ◌+◌, Bool, List, [], None, IsTrue, if◌then◌else◌}
use Rattle.space_model.specs.declared.event.Event.{Event}
use Rattle.space_model.specs.declared.event.Kind.TheVariants.{Full as FullKind}
use Rattle.space_model.specs.declared.object.Guard.{Guard}
use Rattle.space_model.specs.declared.object.Style.{Style}
use Rattle.space_model.specs.declared.reply.Reply.{Reply}
use Rattle.space_model.specs.declared.reply.Reply.TheVariants.{Made, Full, NoMemory}
use Rattle.space_model.specs.Layout.{pool_for}
use Rattle.space_heap.specs.Allocations.{IsAllocation, LacksRoom, NeedsNewPage}
use Rattle.space_heap.specs.FreeSlots.{HasNoFree}
use Rattle.space_heap.specs.HeapView.{HeapView}
use Rattle.space_heap.specs.SoundHeap.{IsSoundHeap}
use Rattle.space_roots.specs.WordRoots.{root_word}
use Rattle.space_collector.specs.PagesSwept.{SweepsUntilFree}
use Rattle.space_engine.specs.HeapCollections.{IsCompletion, IsCollected}
use Rattle.space_engine.specs.Turns.{IsCompacting}
use Rattle.space_engine.specs.Views.{View, with_swept, with_root_dropped, with_root_reserved, with_root_written}

-- w is v after a place was made for the root, which tells whether it is new
pub record IsReserved (v w : View) (root : List ℕ) (is_new : Bool) : Type 0 where
  pub becomes : w ≡ with_root_reserved v root is_new
  pub absent : IsTrue is_new → root_word v.roots root ≡ None

-- a compaction is under way, and no address is free for the pool: it is completed before a page is taken
abbrev pub NeedsCompletion : HeapView → ℕ → Type 0
NeedsCompletion heap pool = IsCompacting heap × HasNoFree heap pool

-- in such need the compaction was completed, and these events tell of it; else nothing was done
pub record IsCompletedInNeed (v w : View) (pool : ℕ) (events : List Event) : Type 0 where
  -- of every heap this holds
  pub was_sound : IsCompacting v.heap → IsSoundHeap v.heap
  pub done : (NeedsCompletion v.heap pool × (scans : ℕ) × IsCompletion v w scans events)
      ⊎ ((NeedsCompletion v.heap pool → ⊥) × (events ≡ []) × (w ≡ v))

-- the same, and where nothing was done the ledger's count stayed
pub record IsTickedInNeed (v w : View) (pool ticks ticked : ℕ) (events : List Event) : Type 0 where
  pub completed : IsCompletedInNeed v w pool events
  pub still : (NeedsCompletion v.heap pool → ⊥) → ticked ≡ ticks

-- an object was allocated with this name at this address, after sweeps where no address was free, and the root holds the address
pub record IsRootedAllocation (v w : View) (root : List ℕ) (fields : ℕ) (guard : Guard) (style : Style) (name address : ℕ) : Type 0 where
  -- of every heap this holds
  pub was_sound : IsSoundHeap v.heap
  -- the heap after the sweeps
  pub swept : HeapView
  pub sweeps : SweepsUntilFree v.heap v.finals swept w.finals (pool_for fields)
  pub sound : IsSoundHeap swept
  pub allocation : IsAllocation swept w.heap fields guard style name address
  pub becomes : w ≡ with_root_written (with_swept v w.heap w.finals) root address

-- pages were swept until an address was free for the pool, or none waited, and nothing else was done
pub record IsSwept (v w : View) (pool : ℕ) : Type 0 where
  -- of every heap this holds
  pub was_sound : IsSoundHeap v.heap
  pub sweeps : SweepsUntilFree v.heap v.finals w.heap w.finals pool
  pub sound : IsSoundHeap w.heap
  pub becomes : w ≡ with_swept v w.heap w.finals

-- pages were swept, and a root that is new was taken away again
pub record IsGivenUp (v w : View) (root : List ℕ) (is_new : Bool) (pool : ℕ) : Type 0 where
  -- of every heap this holds
  pub was_sound : IsSoundHeap v.heap
  pub sweeps : SweepsUntilFree v.heap v.finals w.heap w.finals pool
  pub sound : IsSoundHeap w.heap
  pub becomes : w ≡ (if is_new then with_root_dropped (with_swept v w.heap w.finals) root else with_swept v w.heap w.finals)

-- the reply to an allocation where no new page takes memory: an object was allocated, and the root, whose place was made, holds it; or
-- there is no room, and a root that is new was taken away again
abbrev pub IsLastReply : View → View → List ℕ → Bool → ℕ → Guard → Style → Reply → Type 0
IsLastReply v w root is_new fields guard style (Made name address) = IsRootedAllocation v w root fields guard style name address
IsLastReply v w root is_new fields guard style Full = LacksRoom w.heap (pool_for fields) × IsGivenUp v w root is_new (pool_for fields)
IsLastReply v w root is_new fields guard style _ = ⊥

-- the first reply: an object was allocated; or there is no memory for a new page, and a root that is new was taken away again
abbrev pub IsFirstReply : View → View → List ℕ → Bool → ℕ → Guard → Style → Reply → Type 0
IsFirstReply v w root is_new fields guard style (Made name address) = IsRootedAllocation v w root fields guard style name address
IsFirstReply v w root is_new fields guard style NoMemory = NeedsNewPage w.heap (pool_for fields) × IsGivenUp v w root is_new (pool_for fields)
IsFirstReply v w root is_new fields guard style _ = ⊥

-- a whole collection, of which these events tell, with so many scans and those of the completion before it; and then the last reply
pub record IsRetried (v w : View) (root : List ℕ) (is_new : Bool) (fields : ℕ) (guard : Guard) (style : Style) (reply : Reply) (ended scans : ℕ)
    (events : List Event) : Type 0 where
  -- the space after the collection
  pub collected : View
  pub collects : IsCollected v collected FullKind ended scans events
  pub last : IsLastReply collected w root is_new fields guard style reply

-- the same, after pages were swept and there was no room
pub record IsLateReply (v w : View) (root : List ℕ) (is_new : Bool) (fields : ℕ) (guard : Guard) (style : Style) (reply : Reply) (ended scans : ℕ)
    (events : List Event) : Type 0 where
  -- the space after the sweeps
  pub limited : View
  pub swept : IsSwept v limited (pool_for fields)
  pub lacks : LacksRoom limited.heap (pool_for fields)
  pub retried : IsRetried limited w root is_new fields guard style reply ended scans events

-- so the reply was given, the first one without an event or a late one, after so many scans
abbrev pub IsCreation : View → View → List ℕ → Bool → ℕ → Guard → Style → Reply → ℕ → List Event → Type 0
IsCreation v w root is_new fields guard style reply scans events =
    (IsFirstReply v w root is_new fields guard style reply × (events ≡ []) × (scans ≡ 0))
    ⊎ ((ended whole : ℕ) × IsLateReply v w root is_new fields guard style reply ended whole events × (scans ≡ ended + whole))

-- some reply was given so
pub record IsCreated (v w : View) (root : List ℕ) (is_new : Bool) (fields : ℕ) (guard : Guard) (style : Style) (events : List Event) : Type 0 where
  pub reply : Reply
  pub scans : ℕ
  pub creates : IsCreation v w root is_new fields guard style reply scans events

-- this reply was given so, and the ledger's count rose by the scans
pub record IsTickedCreation (v w : View) (root : List ℕ) (is_new : Bool) (fields : ℕ) (guard : Guard) (style : Style) (reply : Reply)
    (ticks ticked : ℕ) (events : List Event) : Type 0 where
  pub scans : ℕ
  pub creates : IsCreation v w root is_new fields guard style reply scans events
  pub rose : ticked ≡ ticks + scans
