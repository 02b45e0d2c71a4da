use Rattle.std.proofs.Common.{◌+◌, ◌-◌, ◌*◌, length, refl, arith}
use Rattle.space_model.specs.Layout.{page_bytes, page_of}
use Rattle.space_collector.proofs.GoneLists.{gone_small}
use Rattle.space_collector.proofs.GoneOnPages.{queued_next, queued_all, queued_none}
use Rattle.space_collector.proofs.sweeping.queue_gone.Goals as goal

pub returns-then-not-any_defined : goal.returns-then-not-any_defined
returns-then-not-any_defined c = queued_none c.args.heap.now c.args.page c.args.finals.now (c.if-not-any_defined.ensures.none refl)

pub gone-init : goal.gone-init
gone-init c = refl

pub overflow_add-from : goal.overflow_add-from
unfolding page_of
overflow_add-from c = let on = c.in-Some.ensures.0.on in grind (arith, on, c.ranges.page)

pub gone-smaller : goal.gone-smaller
gone-smaller c =
    let small = gone_small c.args.heap.now c.in-Some.found.address c.in-Some.ensures.0.is in
    let further = c.in-Some.ensures.0.from_there in
    omega (arith, small, further)

pub gone-preserved : goal.gone-preserved
gone-preserved c = queued_next c.args.heap.now c.args.page _ _ _ _ c.in-Some.found c.in-Some.ensures c.gone.invariant c.queue.ensures

pub returns : goal.returns
returns c = queued_all c.args.heap.now c.args.page _ _ _ c.in_default.ensures c.gone.invariant
