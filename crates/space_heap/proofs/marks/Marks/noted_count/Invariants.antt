use Rattle.std.proofs.Common.{◌≡◌, ◌≤◌}
use Rattle.std.specs.Prelude.{count_by}
use Rattle.std.specs.List.{range_with_len}
use Rattle.space_heap.specs.planes.CountedSlots.{is_noted_in}
use Rattle.space_heap.proofs.marks.Marks.noted_count.Given as goal

-- the slots so far of which it is noted
abbrev pub invariant-slots : goal.invariant-slots
invariant-slots l = record {
  counted : l.count ≡ count_by (is_noted_in l.note l.self) (range_with_len 0 l.s);
  few : l.count ≤ l.s;
}
