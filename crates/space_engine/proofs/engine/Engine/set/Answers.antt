use Rattle.space_engine.proofs.RootCommands.{set_done, set_unwritten, set_refused}
use Rattle.space_engine.proofs.engine.Engine.set.Goals as goal

pub returns-in-Err-clause-answers : goal.returns-in-Err-clause-answers
returns-in-Err-clause-answers c = λ s h. set_refused c.args.self.now s h c.args.root.now c.args.value.now c.in-Err.why (c.in-Err.ensures s h)

pub returns-in-Ok-put_root-clause-answers : goal.returns-in-Ok-put_root-clause-answers
returns-in-Ok-put_root-clause-answers c =
    λ s h. rw c.in-Ok-put_root.ensures.ok (set_done c.args.self.now s h c.args.root.now c.args.value.now c.in-Ok.word c.requires (c.in-Ok.ensures s h))

pub returns-in-Err-put_root-clause-answers : goal.returns-in-Err-put_root-clause-answers
returns-in-Err-put_root-clause-answers c = λ s h.
    rw c.in-Err-put_root.ensures.err
    (set_unwritten c.args.self.now s h c.args.root.now c.args.value.now c.in-Ok.word (c.in-Ok.ensures s h) c.in-Err-put_root.ensures.absent)
