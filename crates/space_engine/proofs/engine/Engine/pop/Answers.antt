use Rattle.space_engine.proofs.StackCommands.{popped, pop_refused}
use Rattle.space_engine.proofs.engine.Engine.pop.Goals as goal

pub returns-in-Some-clause-answers : goal.returns-in-Some-clause-answers
returns-in-Some-clause-answers c = λ s h. rw c.in-Some.ensures.rest (popped c.args.self.now s h _ _ c.in-Some.ensures.top)

pub returns-in-None-clause-answers : goal.returns-in-None-clause-answers
returns-in-None-clause-answers c = λ s h. rw c.in-None.ensures.unchanged (pop_refused c.args.self.now s h c.in-None.ensures.empty)
