use Rattle.std.proofs.Common.{rules}
use Rattle.space_planes.proofs.CountsUp.{counted_more, counted_all}
use Rattle.space_planes.proofs.formulas.count_up.Goals as goal

pub places-preserved : goal.places-preserved
places-preserved c = counted_more c.args.counted.now c.args.skipped.now c.args.low.now c.args.high.now c.places.low c.places.high c.places.i
    c.places.invariant (search rules) (search rules)

pub returns : goal.returns
returns c = counted_all c.args.counted.now c.args.skipped.now c.args.low.now c.args.high.now c.places.low c.places.high c.places.i c.places.invariant
    (search rules) c.requires.low c.requires.high
