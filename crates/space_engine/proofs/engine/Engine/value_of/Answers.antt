use Rattle.std.proofs.Common.{◌∙◌, sym, rules}
use Rattle.space_engine.proofs.Reading.{operand_lost, operand_found}
use Rattle.space_engine.proofs.engine.Engine.value_of.Goals as goal

pub returns-in_err-word : goal.returns-in_err-word
returns-in_err-word c = λ s h. rw (operand_lost c.args.self.now s h c.args.operand.now _ (sym c.in_err-word.ensures)) (search rules)

pub returns : goal.returns
returns c = λ s h. c.ok_or.ensures.value
    ∙ sym (operand_found c.args.self.now s h c.args.operand.now _ _ (sym c.in_ok-word.ensures) (c.value_of_word.ensures s h))
