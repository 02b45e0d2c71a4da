-- The reply written, or cut off.
use Rattle.space_engine.proofs.Outcomes.{on_err}
use Rattle.space_engine.proofs.Stepping.{quiet_plain, answered_quietly, written_whole, reply_cut}
use Rattle.space_engine.proofs.engine.Engine.reply_and_write.Goals as goal

pub returns-in_err-write_reply-clause-fault : goal.returns-in_err-write_reply-clause-fault
returns-in_err-write_reply-clause-fault g c =
    on_err c.from_residual.result _
    (reply_cut c.args.self.now c.reply-reply.new.self c.args.command.now c.reply-reply.result 0 0 _ _ _ _ _
    (answered_quietly c.args.self.now c.reply-reply.new.self c.args.command.now c.reply-reply.result _ _ _ c.requires.quiet c.reply-reply.ensures.answers c.reply-reply.ensures.ticked)
    c.write_reply.ensures.spelled c.write_reply.ensures.prefix)

pub returns-clause-done : goal.returns-clause-done
returns-clause-done g c = rw c.counts_of_answer.ensures
    (written_whole c.args.self.now c.reply-reply.new.self c.args.command.now c.reply-reply.result 0 0 _ _ _ _ _
    (quiet_plain c.args.command.now c.requires.quiet)
    (answered_quietly c.args.self.now c.reply-reply.new.self c.args.command.now c.reply-reply.result _ _ _ c.requires.quiet c.reply-reply.ensures.answers c.reply-reply.ensures.ticked)
    c.write_reply.ensures.spelled c.in_ok-write_reply.ensures.bytes)
