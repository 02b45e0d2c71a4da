use Rattle.std.proofs.Common.{rules, ◌||◌}
use Rattle.space_planes.proofs.Zips.{zip_more}
use Rattle.space_planes.proofs.formulas.or.Goals as goal

pub loop-i-preserved : goal.loop-i-preserved
loop-i-preserved c = record {
  written = zip_more (λ left right. left || right) c.args.left.now c.args.right.now c.loop-i.out c.loop-i.i (search rules) (search rules) (search rules)
      c.loop-i.invariant.written;
  long = search rules;
}
