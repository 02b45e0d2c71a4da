use Rattle.std.proofs.Common.{◌≡◌, ap, ◌∙◌}
use Rattle.space_pools.specs.PoolsView.{written_at}
use Rattle.space_heap.proofs.starts.PoolStarts.{written_used}
use Rattle.space_heap.proofs.moves.put_words.Goals as goal

pub returns : goal.returns
returns c =
    let e : c.copy_from_slice.new.self ≡ c.args.words.now = c.copy_from_slice.ensures.after in
    ap (written_at c.args.pools.now c.args.page c.args.slot) e
    ∙ written_used c.args.pools.now c.args.page c.args.slot c.args.words.now c.slot_mut.ensures.sound c.requires.used c.requires.len
