-- By the phase: the correction begins, or goes on, or there is none.
use Rattle.std.proofs.Common.{rules, ◌≡◌, ◌≢◌, subst, refl, arith}
use Rattle.space_model.specs.declared.command.Command.TheVariants.{Fix}
use Rattle.space_model.specs.declared.phase.Phase.TheVariants.{Moving, Fixing}
use Rattle.space_model.specs.State.{State}
use Rattle.space_collector.specs.Quiescent.{IsQuiescent}
use Rattle.space_engine.specs.Stands.{Holds}
use Rattle.space_engine.specs.Steps.{Answers}
use Rattle.space_engine.specs.Turns.{IsWork}
use Rattle.space_engine.specs.Views.{View}
use Rattle.space_engine.proofs.CompactionCommands.{fix_begun, fix_refused, fix_turn_begun}
use Rattle.space_engine.proofs.TurnLaws.{work_uncounted}
use Rattle.space_engine.proofs.engine.Engine.fix.Goals as goal

pub returns-in-Moving-clause-answers : goal.returns-in-Moving-clause-answers
returns-in-Moving-clause-answers g c = λ s h.
    let moving : c.args.self.now.heap.phase ≡ Moving = search rules in
    fix_begun c.args.self.now s h moving c.fix_some.new.self c.args.count c.fix_some.result
    (subst (λ (w : View). (t : State) → Holds w t → Answers t c.fix_some.new.self (Fix c.args.count) c.fix_some.result) c.begin_fixing.ensures
    c.fix_some.ensures.answers)

pub returns-in-Moving-clause-turn : goal.returns-in-Moving-clause-turn
returns-in-Moving-clause-turn g c =
    let moving : c.args.self.now.heap.phase ≡ Moving = search rules in
    fix_turn_begun c.args.self.now.heap c.fix_some.new.self.heap moving c.requires.able.collect.quiescent
    (subst (λ (w : View). IsQuiescent w.heap → IsWork 0 1 w.heap c.fix_some.new.self.heap) c.begin_fixing.ensures c.fix_some.ensures.work)

pub returns-in-Idle : goal.returns-in-Idle
returns-in-Idle g c =
    let moving : c.args.self.now.heap.phase ≢ Moving = search rules in
    let fixing : c.args.self.now.heap.phase ≢ Fixing = search rules in
    record {
      answers = λ s h. fix_refused c.args.self.now s h moving fixing c.args.count;
      ticked = refl;
      turn = work_uncounted 3 2 c.args.self.now.heap c.args.self.now.heap refl (λ q. q);
      steps = (omega arith, omega arith);
    }
