use Rattle.space_trace.proofs.InputLemmas.{no_operand}
use Rattle.space_trace.proofs.operands.read_operand.Goals as goal

pub returns-in-None : goal.returns-in-None
returns-in-None c = no_operand c.args.word.now c.in_default.ensures c.in-None.ensures
