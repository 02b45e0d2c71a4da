use Rattle.std.proofs.Common.{◌≡◌, subst}
use Rattle.space_model.specs.Spelling.{text_of_pieces}
use Rattle.space_model.specs.Texts.{dump_pieces}
use Rattle.space_dump.specs.Shown.{shown}
use Rattle.space_dump.proofs.LineTexts.{text_of_line}
use Rattle.space_dump.proofs.lines.dump_line.Goals as goal

pub returns-in-Ok-clause-line : goal.returns-in-Ok-clause-line
returns-in-Ok-clause-line g c =
    let sent = c.in-Ok.ensures.events in
    subst (λ l. c.in-Ok.text.items ≡ text_of_pieces (dump_pieces l)) c.line_of-line.ensures.line
    (text_of_line (shown c.line_of-line.result) sent.0 c.in-Ok.text.items sent.1 sent.2)
