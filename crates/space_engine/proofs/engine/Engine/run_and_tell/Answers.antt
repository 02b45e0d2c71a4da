use Rattle.std.proofs.Common.{◌∙◌, ◌-◌, ◌+◌, drop, ap, sym, subst, inl, inr, refl, arith}
use Rattle.std.specs.Io.KnownBytes.{Appends}
use Rattle.std.proofs.KnownBytes.{Appends-nil, Appends-trans}
use Rattle.space_collector.proofs.ToldLines.{prefix_after}
use Rattle.space_io.specs.Sinks.{AppendsPrefix}
use Rattle.space_engine.specs.Views.{View, with_queue}
use Rattle.space_engine.proofs.FinalCommands.{none_ran, one_ran, one_text, others_are, first_spelled, first_cut, ended_spelled, ended_told, ended_ran, ended_rest}
use Rattle.space_engine.proofs.engine.Engine.run_and_tell.Goals as goal

pub run-init : goal.run-init
run-init g c = record {
  told = (none_ran c.args.self.now.finals.queue, Appends-nil (g.K.Sink.written c.args.sink.now));
  rest = refl;
  calm = refl;
  most = omega arith;
}

pub run-preserved : goal.run-preserved
run-preserved g c = record {
  told = (
    one_ran _ _ _ _ _ _ c.run.invariant.told.0 c.in-Some.ensures.oldest c.in-Some.ensures.spelled,
    subst (Appends (g.K.Sink.written c.args.sink.now) (g.K.Sink.written c.write_event.new.sink))
        (sym (one_text c.run.invariant.told.0.done c.in-Some.next.name c.in-Some.next.label))
        (Appends-trans (g.K.Sink.written c.args.sink.now) (g.K.Sink.written c.run.sink) (g.K.Sink.written c.write_event.new.sink) _ _
        c.run.invariant.told.1 c.in-Ok.ensures.bytes),
  );
  rest = c.take_queued.ensures.rest ∙ ap (λ (v : View). with_queue v c.take_queued.new.self.finals.queue) c.run.invariant.rest;
  calm = c.in-Ok.ensures.cause.calm ∙ c.run.invariant.calm;
  most = omega arith;
}

pub returns-in_default-clause-done : goal.returns-in_default-clause-done
returns-in_default-clause-done g c =
    ended_told _ _ _ c.args.count c.run.invariant.told.0 c.run.invariant.most (inr c.in_default.ensures.oldest) _ _ c.run.invariant.told.1

pub returns-in_default-clause-ran : goal.returns-in_default-clause-ran
returns-in_default-clause-ran g c =
    ended_ran _ _ _ c.args.count c.run.invariant.told.0 c.run.invariant.most (inr c.in_default.ensures.oldest)

pub returns-in_default-clause-spelled : goal.returns-in_default-clause-spelled
returns-in_default-clause-spelled g c =
    ended_spelled _ _ _ c.args.count c.run.invariant.told.0 c.run.invariant.most (inr c.in_default.ensures.oldest)

pub returns-in_default-clause-rest : goal.returns-in_default-clause-rest
returns-in_default-clause-rest g c =
    ended_rest _ _ _ c.args.count c.run.invariant.told.0 c.run.invariant.most (inr c.in_default.ensures.oldest) c.args.self.now _
    (c.take_queued.ensures.rest ∙ ap (λ (v : View). with_queue v c.take_queued.new.self.finals.queue) c.run.invariant.rest
    ∙ ap (with_queue c.args.self.now) (c.in_default.ensures.none ∙ sym c.in_default.ensures.oldest))

pub returns-in_default-write_event-clause-fault : goal.returns-in_default-write_event-clause-fault
returns-in_default-write_event-clause-fault g c =
    first_cut _ _ _ c.args.count (one_ran _ _ _ _ _ _ c.run.invariant.told.0 c.in-Some.ensures.oldest c.in-Some.ensures.spelled)
    (omega (arith, c.run-test.true)) _ _
    (subst (AppendsPrefix (g.K.Sink.written c.args.sink.now) (g.K.Sink.written c.write_event.new.sink))
    (sym (one_text c.run.invariant.told.0.done c.in-Some.next.name c.in-Some.next.label))
    (prefix_after (g.K.Sink.written c.args.sink.now) (g.K.Sink.written c.run.sink) (g.K.Sink.written c.write_event.new.sink) _ _
    c.run.invariant.told.1 c.write_event.ensures.prefix))

pub returns-in_default-write_event-clause-spelled : goal.returns-in_default-write_event-clause-spelled
returns-in_default-write_event-clause-spelled g c =
    first_spelled _ _ _ c.args.count (one_ran _ _ _ _ _ _ c.run.invariant.told.0 c.in-Some.ensures.oldest c.in-Some.ensures.spelled) (omega (arith, c.run-test.true))
    c.skip_queued.ensures.spelled

pub returns-in_default-write_event-clause-rest : goal.returns-in_default-write_event-clause-rest
returns-in_default-write_event-clause-rest g c =
    c.skip_queued.ensures.rest
    ∙ ap (λ (v : View). with_queue v (drop (c.args.count - (c.run.ran + 1)) c.take_queued.new.self.finals.queue))
    (c.take_queued.ensures.rest ∙ ap (λ (v : View). with_queue v c.take_queued.new.self.finals.queue) c.run.invariant.rest)
    ∙ ap (with_queue c.args.self.now)
    (sym (others_are _ _ _ c.args.count (one_ran _ _ _ _ _ _ c.run.invariant.told.0 c.in-Some.ensures.oldest c.in-Some.ensures.spelled)
    (omega (arith, c.run-test.true))))

pub returns-clause-done : goal.returns-clause-done
returns-clause-done g c = ended_told _ _ _ c.args.count c.run.invariant.told.0 c.run.invariant.most (inl (omega (arith, c.run.invariant.most, c.run-test.false))) _ _ c.run.invariant.told.1

pub returns-clause-ran : goal.returns-clause-ran
returns-clause-ran g c = ended_ran _ _ _ c.args.count c.run.invariant.told.0 c.run.invariant.most (inl (omega (arith, c.run.invariant.most, c.run-test.false)))

pub returns-clause-spelled : goal.returns-clause-spelled
returns-clause-spelled g c = ended_spelled _ _ _ c.args.count c.run.invariant.told.0 c.run.invariant.most (inl (omega (arith, c.run.invariant.most, c.run-test.false)))

pub returns-clause-rest : goal.returns-clause-rest
returns-clause-rest g c =
    ended_rest _ _ _ c.args.count c.run.invariant.told.0 c.run.invariant.most (inl (omega (arith, c.run.invariant.most, c.run-test.false))) c.args.self.now _ c.run.invariant.rest
