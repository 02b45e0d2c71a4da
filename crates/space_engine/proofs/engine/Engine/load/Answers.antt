use Rattle.std.proofs.Common.{rules}
use Rattle.space_engine.proofs.RootCommands.{loaded, loaded_ticked, load_refused}
use Rattle.space_engine.proofs.engine.Engine.load.Goals as goal

pub returns-in-Err-clause-answers : goal.returns-in-Err-clause-answers
returns-in-Err-clause-answers g c =
    λ s h. load_refused c.args.self.now s h c.args.root.now c.args.object.now c.args.index c.in-Err.why (c.in-Err.ensures.word s h)

pub returns-clause-answers : goal.returns-clause-answers
returns-clause-answers g c = λ s h.
    loaded c.args.self.now s h _ c.args.root.now c.args.object.now c.args.index c.in-Ok.word _ (c.in-Ok.ensures.word s h)
    (λ value e. c.hand_out.ensures.written s value h e)

pub returns-clause-ticked : goal.returns-clause-ticked
returns-clause-ticked g c = loaded_ticked c.args.root.now c.args.object.now c.args.index _ _ _ c.hand_out.ensures.accepted (search rules)
