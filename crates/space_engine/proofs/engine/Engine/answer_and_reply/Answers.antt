-- The events and the reply written, or one of them cut off.
use Rattle.space_engine.proofs.Outcomes.{on_err}
use Rattle.space_engine.proofs.Stepping.{eventful_plain, written_whole, reply_cut, events_cut}
use Rattle.space_engine.proofs.engine.Engine.answer_and_reply.Goals as goal

pub returns-in_err-answer-clause-fault : goal.returns-in_err-answer-clause-fault
returns-in_err-answer-clause-fault g c =
    on_err c.from_residual.result _ (events_cut c.args.self.now c.answer.new.self c.args.command.now _ _ c.in_err-answer.ensures.fault)

pub returns-in_err-write_reply-clause-fault : goal.returns-in_err-write_reply-clause-fault
returns-in_err-write_reply-clause-fault g c =
    on_err c.from_residual-in_err-write_reply.result _
    (reply_cut c.args.self.now c.answer.new.self c.args.command.now c.in_ok-answer.answer.reply c.in_ok-answer.answer.gone c.in_ok-answer.answer.moves _ _ _ _ _
    c.in_ok-answer.ensures.done c.write_reply.ensures.spelled c.write_reply.ensures.prefix)

pub returns-clause-done : goal.returns-clause-done
returns-clause-done g c = rw c.counts_of_answer.ensures
    (written_whole c.args.self.now c.answer.new.self c.args.command.now c.in_ok-answer.answer.reply c.in_ok-answer.answer.gone c.in_ok-answer.answer.moves _ _ _ _ _
    (eventful_plain c.args.command.now c.requires.eventful) c.in_ok-answer.ensures.done c.write_reply.ensures.spelled c.in_ok-write_reply.ensures.bytes)
