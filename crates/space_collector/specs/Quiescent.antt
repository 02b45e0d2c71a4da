-- What holds of a heap between commands, by its phase, and when a marking and its verdict can begin.
use Rattle.std.specs.Prelude.{◌≡◌, ◌≢◌, ℕ, ◌*◌, ◌^◌, ◌<◌, true, []}
use Rattle.space_model.specs.declared.event.Kind.{Kind}
use Rattle.space_model.specs.declared.event.Kind.TheVariants.{Minor, Major, Full}
use Rattle.space_model.specs.declared.phase.Phase.{Phase}
use Rattle.space_model.specs.declared.phase.Phase.TheVariants.{Idle, Marking, Sweeping, Moving, Fixing}
use Rattle.space_model.specs.Layout.{most_pages, most_page_slots, page_of}
use Rattle.space_heap.specs.declared.colour.Colour.TheVariants.{Grey}
use Rattle.space_heap.specs.HeapView.{HeapView, is_unswept}
use Rattle.space_heap.specs.Marking.{colour_of}
use Rattle.space_heap.specs.Objects.{HasNoMoved}
use Rattle.space_heap.specs.Sweeping.{is_gone}

-- no object is grey, and no address is listed as that of a grey one
pub record HasNoGrey (heap : HeapView) : Type 0 where
  pub listed : heap.grey ≡ []
  pub objects : (a : ℕ) → colour_of heap a ≢ Grey

-- whatever work is left over shows in the phase
pub record IsQuiescent (heap : HeapView) : Type 0 where
  -- a gone object lies on a page that waits for a sweep
  pub gone_wait : (a : ℕ) → is_gone heap a ≡ true → is_unswept heap (page_of a) ≡ true
  pub none_waits : heap.phase ≢ Sweeping → heap.unswept ≡ []
  pub some_wait : heap.phase ≡ Sweeping → heap.unswept ≢ []
  pub none_moved : heap.phase ≢ Moving → heap.phase ≢ Fixing → HasNoMoved heap
  pub none_grey : heap.phase ≢ Marking → HasNoGrey heap

-- the phase in which a collection of this kind begins: a minor or a full marking where nothing is under way, and a major verdict ends the
-- marking that is under way
abbrev pub phase_before : Kind → Phase
phase_before Minor = Idle
phase_before Major = Marking
phase_before Full = Idle

-- the phase is the one in which a collection of this kind begins, and each count of verdicts leaves room for one more
pub record CanCollect (kind : Kind) (heap : HeapView) : Type 0 where
  pub quiescent : IsQuiescent heap
  pub begins : heap.phase ≡ phase_before kind
  pub minor_verdicts : heap.counters.minor_verdicts < 2 ^ 62
  pub other_verdicts : heap.counters.other_verdicts < 2 ^ 62

-- the most slots of a heap
abbrev pub most_slots : ℕ
most_slots = most_page_slots * most_pages
