use Rattle.std.proofs.Common.{◌∙◌, ap, sym, inl, inr, arith}
use Rattle.space_engine.specs.Views.{View, with_queue}
use Rattle.space_engine.proofs.FinalCommands.{one_ran, ended_spelled, ended_rest}
use Rattle.space_engine.proofs.engine.Engine.skip_queued.Goals as goal

pub skipped-preserved : goal.skipped-preserved
skipped-preserved c = record {
  has_run = one_ran _ _ _ _ _ _ c.skipped.invariant.has_run c.in-Some.ensures.oldest c.in-Some.ensures.spelled;
  rest = c.take_queued.ensures.rest ∙ ap (λ (v : View). with_queue v c.take_queued.new.self.finals.queue) c.skipped.invariant.rest;
  most = omega arith;
}

pub returns-in_default-clause-spelled : goal.returns-in_default-clause-spelled
returns-in_default-clause-spelled c =
    ended_spelled _ _ _ c.args.count c.skipped.invariant.has_run c.skipped.invariant.most (inr c.in_default.ensures.oldest)

pub returns-in_default-clause-rest : goal.returns-in_default-clause-rest
returns-in_default-clause-rest c =
    ended_rest _ _ _ c.args.count c.skipped.invariant.has_run c.skipped.invariant.most (inr c.in_default.ensures.oldest) c.args.self.now _
    (c.take_queued.ensures.rest ∙ ap (λ (v : View). with_queue v c.take_queued.new.self.finals.queue) c.skipped.invariant.rest
    ∙ ap (with_queue c.args.self.now) (c.in_default.ensures.none ∙ sym c.in_default.ensures.oldest))

pub returns-clause-spelled : goal.returns-clause-spelled
returns-clause-spelled c =
    ended_spelled _ _ _ c.args.count c.skipped.invariant.has_run c.skipped.invariant.most
    (inl (omega (arith, c.skipped.invariant.most, c.skipped-test.false)))

pub returns-clause-rest : goal.returns-clause-rest
returns-clause-rest c =
    ended_rest _ _ _ c.args.count c.skipped.invariant.has_run c.skipped.invariant.most
    (inl (omega (arith, c.skipped.invariant.most, c.skipped-test.false))) c.args.self.now _ c.skipped.invariant.rest
