use Rattle.space_trace.proofs.HexLemmas.{IsHexTo}
use Rattle.space_trace.proofs.words.hex_value.Given as goal

abbrev pub invariant-loop-b : goal.invariant-loop-b
invariant-loop-b l = IsHexTo l.digits l.b-index l.number
