use Rattle.std.proofs.Common.{◌∙◌, subst, arith}
use Rattle.std.proofs.lemmas.Bool.{and_parts}
use Rattle.space_pools.specs.PageSlots.{HoldsSlots}
use Rattle.space_pools.specs.PoolsView.{page_at}
use Rattle.space_heap.proofs.starts.WordPlaces.{on_page, few_words, word_within, word_read}
use Rattle.space_heap.proofs.addresses.word_of.Goals as goal

pub unreachable-requires : goal.unreachable-requires
unreachable-requires c = on_page c.args.pools.now c.args.address c.page_with.ensures.sound (and_parts _ _ c.requires.used).0 c.in-None.ensures.page

pub overflow_add-address : goal.overflow_add-address
overflow_add-address c = let w = word_within c.args.pools.now c.args.address c.page_with.ensures.sound c.requires.used c.args.k c.requires.within in
    record { fits = omega arith }

pub word-requires : goal.word-requires
word-requires c = word_within c.args.pools.now c.args.address c.page_with.ensures.sound c.requires.used c.args.k c.requires.within

pub returns-clause-few : goal.returns-clause-few
returns-clause-few c = few_words c.args.pools.now c.args.address c.page_with.ensures.sound c.requires.used

pub returns-clause-word : goal.returns-clause-word
returns-clause-word c =
    let holds = subst (λ k. HoldsSlots (page_at c.args.pools.now k) c.page.result.now) c.in-Some.ensures.page.on c.page.ensures.words in
    c.word.ensures.word ∙ word_read c.args.pools.now c.args.address c.page_with.ensures.sound c.requires.used c.args.k c.page.result.now c.requires.within holds
