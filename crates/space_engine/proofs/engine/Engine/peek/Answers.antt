use Rattle.std.proofs.Common.{refl, ap, ◌∙◌}
use Rattle.space_model.specs.declared.reply.Reply.TheVariants.{Refused}
use Rattle.space_model.specs.Outputs.{Peeked, Replied}
use Rattle.space_heap.specs.Objects.{object_of}
use Rattle.space_engine.specs.Views.{View}
use Rattle.space_engine.proofs.DumpCommands.{peek_refused, peek_shown, peek_written, peek_cut_off}
use Rattle.space_engine.proofs.Outcomes.{on_err}
use Rattle.space_engine.proofs.engine.Engine.peek.Goals as goal

pub returns-in_err-write_reply-in-Err-clause-fault : goal.returns-in_err-write_reply-in-Err-clause-fault
returns-in_err-write_reply-in-Err-clause-fault g c =
    on_err c.from_residual.result _
    (peek_cut_off c.args.self.now c.args.object.now (Replied (Refused c.in-Err.why)) _ _
    (peek_refused c.args.self.now c.args.object.now c.in-Err.why c.in-Err.ensures.address)
    c.write_reply.ensures.prefix)

pub returns-in-Err-clause-done : goal.returns-in-Err-clause-done
returns-in-Err-clause-done g c =
    peek_written c.args.self.now c.args.object.now (Replied (Refused c.in-Err.why)) _ _ _ _ _
    (peek_refused c.args.self.now c.args.object.now c.in-Err.why c.in-Err.ensures.address)
    c.counts_of_answer.ensures c.in_ok-write_reply-in-Err.ensures.bytes refl

pub returns-in_err-write_peek-clause-fault : goal.returns-in_err-write_peek-clause-fault
returns-in_err-write_peek-clause-fault g c =
    on_err c.from_residual-in_err-write_peek.result _
    (peek_cut_off c.args.self.now c.args.object.now (Peeked c.in-Ok.address c.peek_words-words.result.now) _ _
    (peek_shown c.args.self.now c.args.object.now c.in-Ok.address c.peek_words-words.result.now c.in-Ok.ensures.address
    (c.peek_words-words.ensures.words ∙ ap (λ (v : View). (object_of v.heap c.in-Ok.address).fields) c.self.view_is))
    c.write_peek.ensures.prefix)

pub returns-clause-done : goal.returns-clause-done
returns-clause-done g c =
    peek_written c.args.self.now c.args.object.now (Peeked c.in-Ok.address c.peek_words-words.result.now) _ _ _ _ _
    (peek_shown c.args.self.now c.args.object.now c.in-Ok.address c.peek_words-words.result.now c.in-Ok.ensures.address
    (c.peek_words-words.ensures.words ∙ ap (λ (v : View). (object_of v.heap c.in-Ok.address).fields) c.self.view_is))
    refl c.in_ok-write_peek.ensures.bytes c.peek_words-words.ensures.ticked
