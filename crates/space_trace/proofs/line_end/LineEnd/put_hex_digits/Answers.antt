use Rattle.std.proofs.Common.{length, ap, arith}
use Rattle.space_trace.proofs.HexLemmas.{length_step, put_before}
use Rattle.space_trace.proofs.line_end.LineEnd.put_hex_digits.Goals as goal

pub put-requires : goal.put-requires
put-requires c = omega (arith, length_step c.digits.left (omega arith), c.digits.invariant.len, c.requires)

pub digits-preserved : goal.digits-preserved
digits-preserved c = record {
  items = put_before c.digits.left _ _ _ _ (omega arith) c.glyph.ensures c.put.ensures c.digits.invariant.items;
  len = omega (arith, length_step c.digits.left (omega arith), ap length c.put.ensures, c.digits.invariant.len);
}
