use Rattle.std.proofs.Common.{◌∙◌, sym}
use Rattle.space_engine.proofs.RootCommands.{dropped, drop_refused}
use Rattle.space_engine.proofs.engine.Engine.drop_root.Goals as goal

pub returns-then-take_root-clause-answers : goal.returns-then-take_root-clause-answers
returns-then-take_root-clause-answers c =
    λ s h. rw c.take_root.ensures.rest (dropped c.args.self.now s h c.args.root.now (sym c.take_root.ensures.answer ∙ c.if-take_root.true))

pub returns-else-take_root-clause-answers : goal.returns-else-take_root-clause-answers
returns-else-take_root-clause-answers c =
    λ s h. rw c.take_root.ensures.rest (drop_refused c.args.self.now s h c.args.root.now (sym c.take_root.ensures.answer ∙ c.if-take_root.false))
