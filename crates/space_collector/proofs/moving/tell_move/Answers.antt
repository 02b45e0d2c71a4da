use Rattle.space_collector.proofs.MoveLines.{line_more, line_less}
use Rattle.space_collector.proofs.moving.tell_move.Goals as goal

pub returns-in-Ok-clause-written : goal.returns-in-Ok-clause-written
returns-in-Ok-clause-written g c = λ before text. line_more before _ _ text _ c.args.told c.write_event.result c.in-Ok.field-0 c.in-Ok.is
    c.write_event.ensures.bytes c.write_event.ensures.prefix

pub returns-in-Err-clause-written : goal.returns-in-Err-clause-written
returns-in-Err-clause-written g c = λ before text. line_less before _ (g.K.Sink.written c.args.sink.now) text _ c.args.told c.in-Err.fault c.in-Err.is
