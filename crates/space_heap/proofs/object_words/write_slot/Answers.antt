use Rattle.std.proofs.Common.{◌≡◌, ap, ◌∙◌, arith}
use Rattle.std.proofs.lemmas.List.{length-set, length-replicate}
use Rattle.space_pools.specs.PageSlots.{width_of}
use Rattle.space_pools.specs.PoolsView.{pool_at, written_at}
use Rattle.space_heap.specs.words.ObjectWords.{object_words, first_word}
use Rattle.space_heap.proofs.starts.PoolStarts.{wide_slot, written_used}
use Rattle.space_heap.proofs.object_words.write_slot.Goals as goal

pub write_object-requires-clause-wide : goal.write_object-requires-clause-wide
write_object-requires-clause-wide c =
    let w = wide_slot c.args.pools.now c.args.page c.args.slot c.slot_mut.ensures.sound c.requires.used in
    let l = c.slot_mut.ensures.len in
    omega arith

pub returns : goal.returns
returns c =
    let v = c.args.pools.now in
    let n = width_of (pool_at v c.args.page) in
    let words = object_words n c.args.fields c.args.style c.args.name in
    let e : c.write_object.new.words ≡ words = c.write_object.ensures
    ∙ ap (λ n. object_words n c.args.fields c.args.style c.args.name) c.slot_mut.ensures.len in
    ap (written_at v c.args.page c.args.slot) e
    ∙ written_used v c.args.page c.args.slot words c.slot_mut.ensures.sound c.requires.used
    (length-set _ 1 c.args.name ∙ length-set _ 0 (first_word c.args.fields c.args.style) ∙ length-replicate n 0)
