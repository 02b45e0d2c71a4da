use Rattle.space_trace.specs.WordsLeft.{words_in}
use Rattle.space_trace.proofs.ReadingLemmas.{no_raw}
use Rattle.space_trace.proofs.stack_commands.read_raw.Goals as goal

pub returns-in_err-word-2 : goal.returns-in_err-word-2
returns-in_err-word-2 c =
    rw c.from_residual-in_err-word-2.ensures (no_raw (words_in c.args.rest) c.in_ok-word.word.now c.in_ok-word.ensures c.in_err-word-2.ensures)
