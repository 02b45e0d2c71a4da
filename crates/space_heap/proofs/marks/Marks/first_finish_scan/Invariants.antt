use Rattle.std.proofs.Common.{◌≡◌, ℕ, ◌<◌, ◌≤◌, ◌-◌, false, length}
use Rattle.space_heap.specs.planes.MarkPlanes.{is_finish_scan_in}
use Rattle.space_heap.proofs.marks.Marks.first_finish_scan.Given as goal

abbrev pub invariant-slots : goal.invariant-slots
invariant-slots l = record {
  from : l.s ≤ l.at;
  before : (j : ℕ) → l.s ≤ j → j < l.at → is_finish_scan_in l.self j ≡ false;
}

abbrev pub decreases-slots : goal.decreases-slots
decreases-slots l = length l.self.object - l.at
