use Rattle.std.proofs.Common.{length, ap, ◌∙◌, arith}
use Rattle.space_dump.proofs.HexDigits.{count, fewer, taken}
use Rattle.space_dump.proofs.hex_text.HexText.push_digits.Goals as goal

pub push-requires : goal.push-requires
push-requires c = omega (arith, fewer c.digits.left (omega arith), c.digits.invariant.len, count 16 c.args.number (omega arith))

pub digits-preserved : goal.digits-preserved
digits-preserved c = record {
  items = taken c.digits.left _ _ _ (record { some = omega arith; is = c.glyph.ensures; pushed = c.push.ensures }) ∙ c.digits.invariant.items;
  len = omega (arith, fewer c.digits.left (omega arith), ap length c.push.ensures, c.digits.invariant.len);
}

pub returns-clause-few : goal.returns-clause-few
returns-clause-few c = omega (arith, c.digits.invariant.len, count 16 c.args.number (omega arith))
