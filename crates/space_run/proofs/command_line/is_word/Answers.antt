use Rattle.std.proofs.Common.{◌<◌, length, rules}
use Rattle.space_run.proofs.WordsLemmas.{is_text}
use Rattle.space_run.proofs.command_line.is_word.Goals as goal

pub returns : goal.returns
returns c =
    let there : c.args.place < length c.args.words.now.items = search rules in
    is_text c.args.words.now.items c.args.place c.index.result.now c.args.text.now c.eq.result there c.index.ensures (rw c.as_str.ensures.value at c.eq.ensures)
