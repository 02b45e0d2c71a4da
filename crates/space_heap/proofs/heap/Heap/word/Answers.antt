use Rattle.space_heap.specs.words.SlotPlaces.{words_from}
use Rattle.space_heap.proofs.fields.Here.{used_start, shown_here, word_within_here, few_fields_here}
use Rattle.space_heap.proofs.heap.Heap.word.Goals as goal

pub word_of-requires-clause-used : goal.word_of-requires-clause-used
word_of-requires-clause-used c = used_start c.self.inside _ c.self.view_is c.args.address c.self.invariant c.requires.object

pub word_of-requires-clause-within : goal.word_of-requires-clause-within
word_of-requires-clause-within c = word_within_here c.self.inside _ c.self.view_is c.args.address c.self.invariant c.requires.object c.args.k c.requires.within

pub returns-clause-word : goal.returns-clause-word
returns-clause-word c = (
  words_from c.self.inside.pools c.args.address,
  shown_here c.self.inside _ c.self.view_is c.args.address c.self.invariant
      c.requires.object,
  c.word_of.ensures.word,
)

pub returns-clause-few : goal.returns-clause-few
returns-clause-few c = few_fields_here c.self.inside _ c.self.view_is c.args.address c.self.invariant c.requires.object c.word_of.ensures.few
