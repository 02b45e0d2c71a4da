use Rattle.std.proofs.lemmas.Result.{on_ok_weaker}
use Rattle.space_dump.specs.Shown.{shown}
use Rattle.space_dump.proofs.SentEvents.{sends_line}
use Rattle.space_dump.proofs.line.LineSerialize.serialize.Goals as goal

pub returns : goal.returns
returns g c =
    let written = g.S.Serializer.written in
    on_ok_weaker c.send_last.result (λ last. sends_line (shown c.args.self.now) (written c.args.out.now) (written c.send_first.new.out)
    (written c.send_flags.new.out) (written c.send_name.new.out) (written c.send_references.new.out) (written c.send_last.new.out)
    c.in_ok-send_first.ensures c.in_ok-send_flags.ensures c.in_ok-send_name.ensures c.in_ok-send_references.ensures last) c.send_last.ensures
