use Rattle.std.proofs.Common.{◌+◌, sym, ap, ◌∙◌}
use Rattle.std.proofs.lemmas.List.{length-set}
use Rattle.space_pools.specs.PoolsView.{with_slot_at}
use Rattle.space_heap.specs.words.ObjectWords.{with_word}
use Rattle.space_heap.proofs.starts.PoolStarts.{written_used}
use Rattle.space_heap.proofs.object_words.write_field.Goals as goal

pub returns : goal.returns
returns c =
    let v = c.args.pools.now in
    let words = c.slot_mut-words.result.now in
    written_used v c.args.page c.args.slot _ c.slot_mut-words.ensures.sound c.requires.used
    (length-set words (2 + c.args.i) c.args.word ∙ c.slot_mut-words.ensures.len)
    ∙ ap (λ f. with_slot_at v c.args.page c.args.slot (with_word c.args.i c.args.word f)) (sym c.slot_mut-words.ensures.words)
