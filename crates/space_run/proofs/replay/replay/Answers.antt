use Rattle.std.proofs.Common.{arith, rules, refl, ◌∙◌}
use Rattle.space_run.proofs.Replaying.{started}
use Rattle.space_run.proofs.replay.replay.Goals as goal

pub each_line-init : goal.each_line-init
each_line-init g c = rw c.requires.lines (record {
  done = started (g.S.Source.rest c.args.source.now) (g.K.Sink.written c.args.sink.now) (g.S.Source.ends c.args.source.now) c.args.space.parts.heap.limit
      c.args.space c.requires.stands;
  number = search rules;
  able = c.requires.able;
  turns = omega (arith, c.requires.turns);
  steps = omega (arith, c.start-steps.ensures);
  read_calm = refl;
  write_calm = refl;
})

pub returns-in-Some-clause-ends : goal.returns-in-Some-clause-ends
returns-in-Some-clause-ends g c = c.in-Some.ensures.line _ _ _ _ c.each_line.invariant.done

pub returns-in-Some-clause-held : goal.returns-in-Some-clause-held
returns-in-Some-clause-held g c = c.in-Some.ensures.held

pub returns-in-Some-clause-failed : goal.returns-in-Some-clause-failed
returns-in-Some-clause-failed g c = rw (c.each_line.invariant.read_calm, c.each_line.invariant.write_calm) at c.in-Some.ensures.failed

pub each_line-preserved : goal.each_line-preserved
each_line-preserved g c =
    let number = c.in_default.ensures.number refl in
    let turns = c.in_default.ensures.turns refl in
    let steps = c.in_default.ensures.steps refl in
    let calm = c.in_default.ensures.failed in
    record {
      done = c.in_default.ensures.line _ _ _ _ c.each_line.invariant.done;
      number = number.1;
      able = c.in_default.ensures.able refl;
      turns = omega (arith, number.0, turns, c.each_line.invariant.turns);
      steps = omega (arith, number.0, steps, c.each_line.invariant.steps);
      read_calm = calm.0 ∙ c.each_line.invariant.read_calm;
      write_calm = calm.1 ∙ c.each_line.invariant.write_calm;
    }
