use Rattle.std.proofs.Common.{◌≡◌, ◌+◌, ◌++◌, length}
use Rattle.std.specs.Int.Digits.{digits_of}
use Rattle.space_model.specs.Spelling.{hex_digits}
use Rattle.space_dump.proofs.hex_text.HexText.push_digits.Given as goal

-- the digits so far, before which those of what is left are to come
abbrev pub invariant-digits : goal.invariant-digits
invariant-digits l = record {
  items : hex_digits l.left ++ l.self ≡ hex_digits l.number;
  len : length (digits_of 16 l.left) + length l.self ≡ length (digits_of 16 l.number);
}

abbrev pub decreases-digits : goal.decreases-digits
decreases-digits l = l.left
