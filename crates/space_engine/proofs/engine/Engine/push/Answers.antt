use Rattle.space_engine.proofs.StackCommands.{pushed, push_refused}
use Rattle.space_engine.proofs.engine.Engine.push.Goals as goal

pub returns-in-Err-clause-answers : goal.returns-in-Err-clause-answers
returns-in-Err-clause-answers c = λ s h. push_refused c.args.self.now s h c.args.value.now c.in-Err.why (c.in-Err.ensures s h)

pub returns-in-Ok-clause-answers : goal.returns-in-Ok-clause-answers
returns-in-Ok-clause-answers c = λ s h. pushed c.args.self.now s h _ c.args.value.now c.in-Ok.word _ (c.in-Ok.ensures s h) (c.raw.ensures.answers s h)
