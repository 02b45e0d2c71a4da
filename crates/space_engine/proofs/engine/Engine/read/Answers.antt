use Rattle.std.proofs.Common.{◌∙◌}
use Rattle.space_engine.proofs.FieldWords.{read_found, operand_present}
use Rattle.space_engine.proofs.engine.Engine.read.Goals as goal

pub returns-clause-word : goal.returns-clause-word
returns-clause-word g c = λ s h.
    c.field_of.ensures.word ∙ read_found c.args.self.now s h _ _ c.args.index (operand_present c.args.self.now s h c.args.object.now) (c.in_ok-word.ensures s h)
