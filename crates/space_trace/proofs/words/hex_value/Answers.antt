use Rattle.std.proofs.Common.{arith}
use Rattle.space_trace.proofs.HexLemmas.{hex_room}
use Rattle.space_trace.proofs.words.hex_value.Goals as goal

pub overflow_mul-number : goal.overflow_mul-number
overflow_mul-number c = omega (arith, hex_room c.loop-b.b-index c.loop-b.number 0 (omega (arith, c.loop-b-test.true, c.requires.short)) c.loop-b.invariant.below (omega arith))

pub overflow_add-number : goal.overflow_add-number
overflow_add-number c = omega (arith, hex_room c.loop-b.b-index c.loop-b.number c.hex_digit.result (omega (arith, c.loop-b-test.true, c.requires.short)) c.loop-b.invariant.below c.hex_digit.ensures.small)
