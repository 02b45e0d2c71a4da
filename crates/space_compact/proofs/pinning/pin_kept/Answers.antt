use Rattle.std.proofs.Common.{◌≡◌, ℕ, true, ◌^◌, ◌<◌, sym, ◌∙◌, arith}
use Rattle.space_heap.specs.HeapView.{HeapView}
use Rattle.space_heap.specs.Objects.{is_occupied, is_object}
use Rattle.space_heap.specs.SoundHeap.{IsSoundHeap}
use Rattle.space_heap.proofs.ObjectLaws.{occupied_from_object}
use Rattle.space_heap.proofs.SweptPages.{standing_below}
use Rattle.space_compact.proofs.Costs.{no_steps, one_step, few_steps}
use Rattle.space_compact.proofs.PinMarks.{PinsBelow, pins_begin, pins_more, pins_end}
use Rattle.space_compact.proofs.pinning.pin_kept.Goals as goal

pub objects-init : goal.objects-init
objects-init g c = record { pins = pins_begin c.args.heap.now; within = omega arith; cost = no_steps c.args.heap.now 0 c.args.steps.now }

pub pin_if_keeping-requires-clause-object : goal.pin_if_keeping-requires-clause-object
pin_if_keeping-requires-clause-object g c = occupied_from_object c.objects.heap c.in-Some.address c.in-Some.ensures.is

pub pin_if_keeping-requires-clause-ticks : goal.pin_if_keeping-requires-clause-ticks
pin_if_keeping-requires-clause-ticks g c =
    let few = few_steps c.args.heap.now c.objects.from c.args.steps.now c.objects.steps c.page_count.ensures.sound c.objects.invariant.cost in
    let r = c.requires in
    omega arith

-- the object stood there from the start
stood : (v u : HeapView) (from a : ℕ) → PinsBelow v u from → is_object u a ≡ true → is_occupied v a ≡ true
stood v u from a below is = occupied_from_object v a (sym (below.same.present a) ∙ is)

-- the address is small
small : (v u : HeapView) (from a : ℕ) → IsSoundHeap v → PinsBelow v u from → is_object u a ≡ true → a < 2 ^ 29
small v u from a sound below is = standing_below v a sound (stood v u from a below is)

pub overflow_add-from : goal.overflow_add-from
overflow_add-from g c =
    let s = small c.args.heap.now c.objects.heap c.objects.from c.in-Some.address c.page_count.ensures.sound c.objects.invariant.pins c.in-Some.ensures.is in
    record { fits = omega arith }

pub objects-smaller : goal.objects-smaller
objects-smaller g c =
    let s = small c.args.heap.now c.objects.heap c.objects.from c.in-Some.address c.page_count.ensures.sound c.objects.invariant.pins c.in-Some.ensures.is in
    let t = c.in-Some.ensures.from_there in
    omega arith

pub objects-preserved : goal.objects-preserved
objects-preserved g c =
    let i = c.objects.invariant in
    let s = small c.args.heap.now c.objects.heap c.objects.from c.in-Some.address c.page_count.ensures.sound i.pins c.in-Some.ensures.is in
    record {
      pins = pins_more c.args.heap.now c.objects.heap c.pin_if_keeping.new.heap c.objects.from c.in-Some.address i.pins c.in-Some.ensures
          c.pin_if_keeping.ensures.kept c.pin_if_keeping.ensures.others;
      within = omega arith;
      cost = one_step c.args.heap.now c.objects.from c.in-Some.address c.args.steps.now c.objects.steps c.pin_if_keeping.new.steps i.cost
          c.in-Some.ensures.from_there (stood c.args.heap.now c.objects.heap c.objects.from c.in-Some.address i.pins c.in-Some.ensures.is)
          c.pin_if_keeping.ensures.counts c.pin_if_keeping.ensures.ticks;
    }

pub returns-clause-pins : goal.returns-clause-pins
returns-clause-pins g c = pins_end c.args.heap.now c.objects.heap c.objects.from c.objects.invariant.pins c.in_default.ensures

pub returns-clause-few : goal.returns-clause-few
returns-clause-few g c = few_steps c.args.heap.now c.objects.from c.args.steps.now c.objects.steps c.page_count.ensures.sound c.objects.invariant.cost

pub returns-clause-counts : goal.returns-clause-counts
returns-clause-counts g c = c.objects.invariant.cost.least
