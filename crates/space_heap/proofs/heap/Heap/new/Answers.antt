use Rattle.std.proofs.Common.{ℕ, ◌≤◌, length, ap, arith, rules}
use Rattle.space_model.specs.Layout.{page_of}
use Rattle.space_model.specs.declared.phase.Phase.TheVariants.{Idle}
use Rattle.space_pools.specs.PoolsView.{PoolsView}
use Rattle.space_heap.specs.declared.heap.Heap.TheInside.{Inside}
use Rattle.space_heap.specs.Inside.{view_from, rest_of}
use Rattle.space_heap.proofs.starts.PoolStarts.{none_past}
use Rattle.space_heap.proofs.fields.Readers.{none_occupied}
use Rattle.space_heap.proofs.Coherence.{coherent_empty}
use Rattle.space_heap.proofs.heap.Heap.new.Goals as goal

abbrev made : goal.In_ok-new-2 → Inside
made c = record {
  alloc = c.args.alloc;
  pools = c.in_ok-new.field-0;
  marks = c.in_ok-with_capacity.field-0;
  grey = c.new-2.result;
  born = 0;
  minor_verdicts = 0;
  other_verdicts = 0;
  freed = 0;
  compactions = 0;
  moves = 0;
  phase = Idle;
  cursor = 0;
  working = c.in_ok-new-2.field-0;
}

pub invariant_of-result : goal.invariant_of-result
invariant_of-result c =
    let none : (a : ℕ) → length c.in_ok-new.field-0.pages ≤ page_of a = λ a. let e = ap (λ (v : PoolsView). length v.pages) c.in_ok-new.ensures in
    omega arith in
    record {
      marks = search rules;
      room = search rules;
      places = let e = ap (λ (v : PoolsView). length v.pages) c.in_ok-new.ensures in omega arith;
      coherent = coherent_empty (view_from (made c)) (λ a.
          none_occupied c.in_ok-new.field-0 c.in_ok-with_capacity.field-0.items (rest_of (made c)) a (none_past c.in_ok-new.field-0 a (none a)))
          c.new-2.ensures.items;
    }
