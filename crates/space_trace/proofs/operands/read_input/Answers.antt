use Rattle.space_trace.proofs.InputLemmas.{no_input}
use Rattle.space_trace.proofs.operands.read_input.Goals as goal

pub returns-in-None : goal.returns-in-None
returns-in-None c = no_input c.args.word.now (rw c.as_slice.ensures at c.if-eq.ensures) c.in_default.ensures c.in-None.ensures
