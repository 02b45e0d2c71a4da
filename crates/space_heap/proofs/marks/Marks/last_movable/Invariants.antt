use Rattle.std.proofs.Common.{◌≡◌, ℕ, ◌<◌, ◌≤◌, false}
use Rattle.space_heap.specs.planes.PinnedMarks.{is_movable_slot}
use Rattle.space_heap.proofs.marks.Marks.last_movable.Given as goal

abbrev pub invariant-slots : goal.invariant-slots
invariant-slots l = record {
  below : l.at ≤ l.end;
  after : (j : ℕ) → l.at ≤ j → j < l.end → is_movable_slot l.self j ≡ false;
}

abbrev pub decreases-slots : goal.decreases-slots
decreases-slots l = l.at
