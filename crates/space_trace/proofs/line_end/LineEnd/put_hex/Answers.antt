use Rattle.std.proofs.Common.{length, ap, arith}
use Rattle.space_trace.proofs.HexLemmas.{length_hex}
use Rattle.space_trace.proofs.line_end.LineEnd.put_hex.Goals as goal

pub put_hex_digits-requires : goal.put_hex_digits-requires
put_hex_digits-requires c = omega (arith, length_hex 16 c.args.number (omega arith), c.requires)

pub returns-else-number-eq0-clause-len : goal.returns-else-number-eq0-clause-len
returns-else-number-eq0-clause-len c = omega (arith, length_hex 16 c.args.number (omega arith), ap length c.put-else-number-eq0.ensures, c.put_hex_digits.ensures.len)

pub put-requires-else-number-eq0 : goal.put-requires-else-number-eq0
put-requires-else-number-eq0 c = omega (arith, length_hex 16 c.args.number (omega arith), c.put_hex_digits.ensures.len, c.requires)
