-- A word that leads nowhere else is left as it is.
use Rattle.std.proofs.Common.{◌∙◌, sym}
use Rattle.space_heap.specs.Objects.{resolved}
use Rattle.space_compact.proofs.ObjectUpdates.{written_same}
use Rattle.space_compact.proofs.fixing.fix_field.Goals as goal

pub returns-else-to-word : goal.returns-else-to-word
returns-else-to-word c =
    written_same c.args.heap.now c.args.address c.args.i c.args.word (resolved c.args.heap.now c.args.word) c.requires.object c.requires.field c.requires.word
    (sym c.resolve-to.ensures ∙ c.if-to-word.false)
