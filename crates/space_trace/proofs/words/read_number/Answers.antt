use Rattle.std.proofs.Common.{arith, rules}
use Rattle.space_trace.proofs.NumberLemmas.{at_end, too_large}
use Rattle.space_trace.proofs.words.read_number.Goals as goal

pub returns-in_err-checked_mul : goal.returns-in_err-checked_mul
returns-in_err-checked_mul c =
    rw c.from_residual.ensures (too_large c.args.text.now c.loop-b.b-index c.loop-b.number c.loop-b-test.true c.if-b-lt48.false c.if-b-gt57.false c.loop-b.invariant.read (omega (arith, c.in_err-checked_mul.ensures)))

pub returns-in_err-number : goal.returns-in_err-number
returns-in_err-number c =
    rw c.from_residual-in_err-number.ensures (too_large c.args.text.now c.loop-b.b-index c.loop-b.number c.loop-b-test.true c.if-b-lt48.false c.if-b-gt57.false c.loop-b.invariant.read (omega (arith, c.in_err-number.ensures, c.in_ok-checked_mul.ensures, c.from.ensures)))

pub returns : goal.returns
returns c = at_end c.args.text.now c.loop-b.b-index c.loop-b.number c.loop-b-test.false c.loop-b.invariant.read (search rules) (search rules) c.loop-b.invariant.fits
