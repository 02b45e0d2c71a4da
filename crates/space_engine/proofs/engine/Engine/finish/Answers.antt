-- The end of a marking, written whole or in part; and the refusal where none is under way.
use Rattle.std.proofs.Common.{rules}
use Rattle.space_engine.proofs.FinishCommand.{finish_answered, finish_cut_off, finish_refused}
use Rattle.space_engine.proofs.Outcomes.{on_err}
use Rattle.space_engine.proofs.engine.Engine.finish.Goals as goal

pub returns-then-ne-clause-done : goal.returns-then-ne-clause-done
returns-then-ne-clause-done g c =
    rw (c.silent.ensures.reply, c.silent.ensures.gone, c.silent.ensures.moves) (finish_refused c.args.self.now (search rules) _ _)

pub returns-in_err-ended-clause-fault : goal.returns-in_err-ended-clause-fault
returns-in_err-ended-clause-fault g c =
    on_err c.from_residual.result _
    (finish_cut_off c.args.self.now c.end_marking.new.self c.end_marking.ensures.rest c.requires.able (search rules) _ _ c.in_err-ended.ensures.fault)

pub returns-clause-done : goal.returns-clause-done
returns-clause-done g c =
    finish_answered c.args.self.now c.end_marking.new.self c.end_marking.ensures.rest c.requires.able (search rules) c.in_ok-ended.ended.scans
    c.in_ok-ended.ended.gone _ _ _ _ c.in_ok-ended.ensures.done c.in_ok-ended.ensures.ticked
