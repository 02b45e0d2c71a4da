use Rattle.std.proofs.Common.{◌+◌, set, ap, ◌∙◌, arith}
use Rattle.space_pools.proofs.LinkWords.{link_fits, link_written}
use Rattle.space_pools.proofs.pool_page.put_link.Goals as goal

pub set_word-requires : goal.set_word-requires
set_word-requires c = let f = link_fits c.args.words.now c.args.pool c.args.s c.args.link c.requires.pool c.requires.slot c.requires.whole in
    let s = c.requires.start in omega arith

pub overflow_add-start : goal.overflow_add-start
overflow_add-start c = let f = link_fits c.args.words.now c.args.pool c.args.s c.args.link c.requires.pool c.requires.slot c.requires.whole in
    let s = c.requires.start in record { fits = omega arith }

pub set_word-requires-2 : goal.set_word-requires-2
set_word-requires-2 c = let f = link_fits c.args.words.now c.args.pool c.args.s c.args.link c.requires.pool c.requires.slot c.requires.whole in
    let s = c.requires.start in omega arith

pub returns : goal.returns
returns c =
    c.set_word-2.ensures
    ∙ ap (λ words. set words (c.args.start + 1) c.args.link) c.set_word.ensures
    ∙ ap (λ start. set (set c.args.words.now start 0) (start + 1) c.args.link) c.requires.start
    ∙ link_written c.args.words.now c.args.pool c.args.s c.args.link c.requires.pool c.requires.slot c.requires.whole
