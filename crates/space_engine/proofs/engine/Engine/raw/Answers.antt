use Rattle.space_engine.proofs.StackCommands.{raw_done, raw_lacking}
use Rattle.space_engine.proofs.engine.Engine.raw.Goals as goal

pub returns-in-Ok-clause-answers : goal.returns-in-Ok-clause-answers
returns-in-Ok-clause-answers c = λ s h. rw c.in-Ok.ensures.ok (raw_done c.args.self.now s h c.args.word c.name_of-names.result (c.name_of-names.ensures s h))

pub returns-in-Err-clause-answers : goal.returns-in-Err-clause-answers
returns-in-Err-clause-answers c = λ s h. rw c.in-Err.ensures.err (raw_lacking c.args.self.now s h c.args.word)
