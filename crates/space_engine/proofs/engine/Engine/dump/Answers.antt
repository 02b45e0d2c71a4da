use Rattle.std.proofs.Common.{subst}
use Rattle.space_heap.specs.SoundHeap.{IsSoundHeap}
use Rattle.space_engine.specs.Views.{View}
use Rattle.space_engine.proofs.DumpCommands.{dump_written, dump_cut_off, dump_stopped}
use Rattle.space_engine.proofs.Outcomes.{on_err}
use Rattle.space_engine.proofs.engine.Engine.dump.Goals as goal

pub returns-in_err-reply-clause-fault : goal.returns-in_err-reply-clause-fault
returns-in_err-reply-clause-fault g c =
    on_err c.from_residual.result _
    (dump_stopped c.args.self.now _ _ c.requires.able (subst (λ (v : View). IsSoundHeap v.heap) c.self.view_is c.page_count.ensures.sound)
    c.in_err-reply.ensures.fault)

pub returns-in_err-write_reply-clause-fault : goal.returns-in_err-write_reply-clause-fault
returns-in_err-write_reply-clause-fault g c =
    on_err c.from_residual-in_err-write_reply.result _
    (dump_cut_off c.args.self.now c.requires.able c.in_ok-reply.reply _ _ _ _ c.in_ok-reply.ensures.done c.write_reply.ensures.spelled _
    c.write_reply.ensures.prefix)

pub returns-clause-done : goal.returns-clause-done
returns-clause-done g c =
    dump_written c.args.self.now c.requires.able c.in_ok-reply.reply _ _ _ _ c.in_ok-reply.ensures.done c.write_reply.ensures.spelled
    c.counts_of_answer.result _ c.counts_of_answer.ensures c.in_ok-write_reply.ensures.bytes
