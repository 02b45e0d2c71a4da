use Rattle.std.proofs.Common.{arith}
use Rattle.space_compact.proofs.Movable.{movable_below}
use Rattle.space_compact.proofs.moving.begin_pool.Goals as goal

pub returns-clause-fingers : goal.returns-clause-fingers
returns-clause-fingers c = record {
  done = c.requires;
  below = λ a e. let b = movable_below c.args.heap.now c.args.pool a e in let n = c.page_count.ensures.count in omega arith;
  small = let n = c.page_count.ensures.limited in let most = c.page_count.ensures.sound.most in let count = c.page_count.ensures.count in omega arith;
}
