use Rattle.std.proofs.Common.{◌+◌, refl, ◌∙◌, arith}
use Rattle.space_collector.proofs.ToldLines.{told_none, goes_on, stops, ends, ends_early}
use Rattle.space_collector.proofs.collection.tell_gone.Goals as goal

pub told-init : goal.told-init
told-init g c = record {
  written = (0, c.new-walk.ensures c.args.heap.now, told_none c.args.heap.now (g.K.Sink.written c.args.sink.now));
  calm = refl;
}

pub told-preserved : goal.told-preserved
told-preserved g c =
    let so_far = c.told.invariant.written in
    let found = c.in-Some.ensures.next so_far.0 so_far.1 in
    record {
      written = (
        c.in-Some.object.address + 1,
        c.in-Some.ensures.behind,
        goes_on c.args.heap.now c.args.kind _ _ _ so_far.0 so_far.2
            c.in-Some.object.address c.in-Some.object.name found.0 found.1
            c.in_ok-write_event.ensures.bytes,
      );
      calm = c.in_ok-write_event.ensures.cause.calm ∙ c.told.invariant.calm;
    }

pub told-smaller : goal.told-smaller
told-smaller g c =
    let further = c.in-Some.ensures.further.further in
    let within = c.in-Some.ensures.further.within in
    let limited = c.next_gone.ensures.sound.limited in
    let most = c.next_gone.ensures.sound.most in
    omega arith

pub returns-in_err-write_event-clause-fault : goal.returns-in_err-write_event-clause-fault
returns-in_err-write_event-clause-fault g c =
    let so_far = c.told.invariant.written in
    let found = c.in-Some.ensures.next so_far.0 so_far.1 in
    stops c.args.heap.now c.args.kind _ _ _ so_far.0 so_far.2 c.from_residual.result
    c.in-Some.object.address c.in-Some.object.name found.0 found.1
    c.write_event.ensures.prefix

pub returns-clause-done : goal.returns-clause-done
returns-clause-done g c =
    let so_far = c.told.invariant.written in
    ends c.args.heap.now c.args.kind _ _ _ so_far.0 so_far.2 c.write_event-2.result (c.in_default.ensures.next so_far.0 so_far.1)
    c.args.gone c.requires.counted c.write_event-2.ensures.bytes

pub returns-clause-fault : goal.returns-clause-fault
returns-clause-fault g c =
    let so_far = c.told.invariant.written in
    ends_early c.args.heap.now c.args.kind _ _ _ so_far.0 so_far.2 c.write_event-2.result (c.in_default.ensures.next so_far.0 so_far.1)
    c.args.gone c.requires.counted c.write_event-2.ensures.prefix
