-- What a quiescent heap has by its phase.
use Rattle.std.proofs.Common.{◌≡◌, ◌≢◌, ℕ, false, refl}
use Rattle.space_model.specs.declared.event.Kind.{Kind}
use Rattle.space_model.specs.declared.event.Kind.TheVariants.{Minor, Major, Full}
use Rattle.space_model.specs.declared.phase.Phase.{Phase}
use Rattle.space_model.specs.declared.phase.Phase.TheVariants.{Idle, Marking, Sweeping, Moving, Fixing}
use Rattle.space_heap.specs.declared.colour.Colour.TheVariants.{White}
use Rattle.space_heap.specs.HeapView.{HeapView, slot_at}
use Rattle.space_heap.specs.Marking.{colour_of}
use Rattle.space_heap.specs.Objects.{is_occupied, object_of, HasNoMoved}
use Rattle.space_heap.specs.Slots.{SlotView, Free, Moved, Object, has_object, object_in}
use Rattle.space_heap.specs.Sweeping.{HasNoGone}
use Rattle.space_sweep.proofs.GoneWaits.{none_gone_waiting}
use Rattle.space_collector.specs.Quiescent.{IsQuiescent, phase_before}

pub idle_not_marking : (phase : Phase) → phase ≡ Idle → phase ≢ Marking
idle_not_marking phase e f = cc

pub idle_not_sweeping : (phase : Phase) → phase ≡ Idle → phase ≢ Sweeping
idle_not_sweeping phase e f = cc

-- no collection begins while pages wait for a sweep, or while objects are moved or the words that name them are fixed
pub begins_not_sweeping : (kind : Kind) (phase : Phase) → phase ≡ phase_before kind → phase ≢ Sweeping
begins_not_sweeping Minor phase e f = cc
begins_not_sweeping Major phase e f = cc
begins_not_sweeping Full phase e f = cc

begins_not_moving : (kind : Kind) (phase : Phase) → phase ≡ phase_before kind → phase ≢ Moving
begins_not_moving Minor phase e f = cc
begins_not_moving Major phase e f = cc
begins_not_moving Full phase e f = cc

begins_not_fixing : (kind : Kind) (phase : Phase) → phase ≡ phase_before kind → phase ≢ Fixing
begins_not_fixing Minor phase e f = cc
begins_not_fixing Major phase e f = cc
begins_not_fixing Full phase e f = cc

-- outside Sweeping no object is gone
pub none_gone : (v : HeapView) → IsQuiescent v → v.phase ≢ Sweeping → HasNoGone v
none_gone v q phase = none_gone_waiting v q.gone_wait (q.none_waits phase)

-- where a collection begins nothing is gone
pub none_gone_before : (v : HeapView) (kind : Kind) → IsQuiescent v → v.phase ≡ phase_before kind → HasNoGone v
none_gone_before v kind q begins = none_gone v q (begins_not_sweeping kind v.phase begins)

-- and nothing was moved
pub none_moved_before : (v : HeapView) (kind : Kind) → IsQuiescent v → v.phase ≡ phase_before kind → HasNoMoved v
none_moved_before v kind q begins = q.none_moved (begins_not_moving kind v.phase begins) (begins_not_fixing kind v.phase begins)

-- where no object stands the colour is white
pub white_where_none : (v : HeapView) (a : ℕ) → is_occupied v a ≡ false → colour_of v a ≡ White
unfolding is_occupied object_of
white_where_none v a none = of_slot (slot_at v a) none
  where
    of_slot : (s : SlotView) → has_object s ≡ false → (object_in s).colour ≡ White
    of_slot Free e = refl
    of_slot (Moved to) e = refl
    of_slot (Object o) e = cc
