use Rattle.std.proofs.Common.{sym, ap, ◌∙◌, arith}
use Rattle.std.proofs.lemmas.List.{length-set}
use Rattle.space_pools.specs.PoolsView.{with_slot_at}
use Rattle.space_heap.specs.words.MovedWords.{forward_words}
use Rattle.space_heap.proofs.starts.PoolStarts.{written_used, wide_slot}
use Rattle.space_heap.proofs.moves.write_forward.Goals as goal

pub returns : goal.returns
returns c =
    let v = c.args.pools.now in
    let words = c.slot_mut-words.result.now in
    written_used v c.args.page c.args.slot _ c.slot_mut-words.ensures.sound c.requires
    (length-set _ 1 c.args.to ∙ length-set words 0 2 ∙ c.slot_mut-words.ensures.len)
    ∙ ap (λ f. with_slot_at v c.args.page c.args.slot (forward_words c.args.to f)) (sym c.slot_mut-words.ensures.words)

pub bounds-words-0 : goal.bounds-words-0
bounds-words-0 c =
    let w = wide_slot c.args.pools.now c.args.page c.args.slot c.slot_mut-words.ensures.sound c.requires in
    let l = c.slot_mut-words.ensures.len in
    omega arith

pub bounds-words-1 : goal.bounds-words-1
bounds-words-1 c =
    let s = length-set c.slot_mut-words.result.now 0 2 in
    let w = wide_slot c.args.pools.now c.args.page c.args.slot c.slot_mut-words.ensures.sound c.requires in
    let l = c.slot_mut-words.ensures.len in
    omega arith
