use Rattle.std.proofs.Common.{◌≤◌, sym, subst}
use Rattle.space_heap.proofs.starts.PoolStarts.{narrow_slot}
use Rattle.space_heap.proofs.moves.slot_words.Goals as goal

pub returns-clause-few : goal.returns-clause-few
returns-clause-few c = subst (λ n. n ≤ 80) (sym c.slot.ensures.len) (narrow_slot c.args.pools.now c.args.page c.page_count.ensures.sound)
