use Rattle.std.proofs.Common.{sym, rules}
use Rattle.space_engine.proofs.Reading.{word_found, word_lost, word_strange}
use Rattle.space_engine.proofs.engine.Engine.word_of.Goals as goal

pub returns-in_err-word : goal.returns-in_err-word
returns-in_err-word c = λ s h. rw (sym (word_lost c.args.self.now s h c.args.operand.now _ (sym c.in_err-word.ensures))) (search rules)

pub returns-in-Some : goal.returns-in-Some
returns-in-Some c = λ s h. word_found c.args.self.now s h c.args.operand.now _ _ (sym c.in_ok-word.ensures) (c.in-Some.ensures s h)

pub returns-in-None : goal.returns-in-None
returns-in-None c = λ s h. word_strange c.args.self.now s h c.args.operand.now _ (sym c.in_ok-word.ensures) (c.in-None.ensures s h)
