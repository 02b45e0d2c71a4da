use Rattle.space_engine.proofs.WeakCommands.{weak_counted}
use Rattle.space_engine.proofs.engine.Engine.weak_size.Goals as goal

pub returns : goal.returns
returns c = rw (← c.self.view_is, c.size.ensures.size) (record { answers = λ s h. weak_counted _ s h c.args.weak.now })
