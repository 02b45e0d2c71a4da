-- Each end of `new` before the root has its place.
use Rattle.std.proofs.Common.{refl}
use Rattle.space_engine.proofs.NewCommand.{too_large, lacks_root}
use Rattle.space_engine.proofs.Stepping.{answered_silently}
use Rattle.space_engine.proofs.engine.Engine.create.Goals as goal

pub returns-in_default-clause-done : goal.returns-in_default-clause-done
returns-in_default-clause-done g c =
    let a = c.args in
    rw (c.silent.ensures.reply, c.silent.ensures.gone, c.silent.ensures.moves) (answered_silently a.self.now a.self.now _ _ _ _ _
    (λ s h. too_large a.root.now a.fields a.guard a.style a.self.now s h c.in_default.ensures) (λ s h. λ rests. refl))

pub returns-in-Err-clause-done : goal.returns-in-Err-clause-done
returns-in-Err-clause-done g c =
    let a = c.args in
    rw (c.silent-in-Err.ensures.reply, c.silent-in-Err.ensures.gone, c.silent-in-Err.ensures.moves, c.in-Err.ensures.err)
    (answered_silently a.self.now a.self.now _ _ _ _ _
    (λ s h. lacks_root a.root.now a.fields a.guard a.style a.self.now s h c.in-Some.ensures.1 c.in-Err.ensures.absent) (λ s h. λ rests. refl))
