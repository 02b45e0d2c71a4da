-- Whether lines were written or not, something was done.
use Rattle.std.proofs.Common.{None}
use Rattle.space_engine.specs.Allocations.{IsCreated, IsTickedCreation}
use Rattle.space_engine.specs.declared.engine.Answer.{Answer}
use Rattle.space_engine.proofs.Creations.{either_way, ticked_created}
use Rattle.space_engine.proofs.engine.Engine.create_unwritten.Goals as goal

pub returns-clause-creates : goal.returns-clause-creates
returns-clause-creates g c =
    let a = c.args in
    let done = c.create_ready in
    let w = done.new.self in
    either_way done.result
    (λ (answer : Answer). IsTickedCreation a.self.now w a.root.now a.is_new a.fields a.guard a.style answer.reply a.steps.now done.new.steps)
    (IsCreated a.self.now w a.root.now a.is_new a.fields a.guard a.style)
    (λ answer. answer.gone) (λ answer. 0) None None
    (λ answer events its. ticked_created a.self.now w a.root.now a.is_new a.fields a.guard a.style answer.reply _ _ events its)
    done.ensures.done done.ensures.fault
