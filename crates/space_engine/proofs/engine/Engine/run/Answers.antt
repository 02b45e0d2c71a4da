-- The events and the reply written, or one of them cut off.
use Rattle.std.proofs.Common.{length, take, refl}
use Rattle.space_engine.proofs.Outcomes.{on_err}
use Rattle.space_engine.proofs.FinalCommands.{run_done, run_reply_cut, run_events_cut, ran_spelled}
use Rattle.space_engine.proofs.engine.Engine.run.Goals as goal

pub returns-in_err-ran-clause-fault : goal.returns-in_err-ran-clause-fault
returns-in_err-ran-clause-fault g c =
    rw c.run_and_tell.ensures.rest
    (on_err c.from_residual.result _
    (run_events_cut c.args.self.now c.args.count (length (take c.args.count c.args.self.now.finals.queue)) refl c.run_and_tell.ensures.spelled _ _
    c.in_err-ran.ensures.fault (ran_spelled c.args.self.now.finals.queue c.args.count c.ranges.count.fits)))

pub returns-in_err-write_reply-clause-fault : goal.returns-in_err-write_reply-clause-fault
returns-in_err-write_reply-clause-fault g c =
    rw c.run_and_tell.ensures.rest
    (on_err c.from_residual-in_err-write_reply.result _
    (run_reply_cut c.args.self.now c.args.count c.in_ok-ran.ran c.in_ok-ran.ensures.ran c.run_and_tell.ensures.spelled _ _ _
    c.in_ok-ran.ensures.done c.write_reply.ensures.spelled c.write_reply.ensures.prefix))

pub returns-clause-done : goal.returns-clause-done
returns-clause-done g c = λ ticks.
    rw c.run_and_tell.ensures.rest
    (run_done c.args.self.now c.args.count c.in_ok-ran.ran c.in_ok-ran.ensures.ran c.run_and_tell.ensures.spelled _ _ _ ticks
    c.in_ok-ran.ensures.done c.write_reply.ensures.spelled c.in_ok-write_reply.ensures.bytes)
