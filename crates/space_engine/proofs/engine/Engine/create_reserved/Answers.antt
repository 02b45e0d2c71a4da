-- The completion in need, and then the rest, with their lines written whole or in part.
use Rattle.space_engine.proofs.Creations.{creation_answered, completion_cut_off, creation_cut_off}
use Rattle.space_engine.proofs.Outcomes.{on_err}
use Rattle.space_engine.proofs.engine.Engine.create_reserved.Goals as goal

pub returns-in_err-made-in-Ok-clause-fault : goal.returns-in_err-made-in-Ok-clause-fault
returns-in_err-made-in-Ok-clause-fault g c = λ v reserved.
    let a = c.args in
    let first = c.complete_in_need in
    let second = c.create_ready in
    on_err c.from_residual.result _
    (creation_cut_off v a.self.now first.new.self second.new.self a.root.now a.is_new a.fields a.guard a.style reserved c.requires.few
    c.requires.able.born first.ensures.work second.ensures.work c.in-Ok.moves _ _ _ _ _ c.in-Ok.ensures.done c.in_err-made-in-Ok.ensures.fault)

pub returns-in_ok-made-in-Ok-clause-done : goal.returns-in_ok-made-in-Ok-clause-done
returns-in_ok-made-in-Ok-clause-done g c = λ v reserved.
    let a = c.args in
    let first = c.complete_in_need in
    let second = c.create_ready in
    creation_answered v a.self.now first.new.self second.new.self a.root.now a.is_new a.fields a.guard a.style reserved c.requires.few
    c.requires.able.born first.ensures.work second.ensures.work _ c.in-Ok.moves _ _ _ _ _ _ _ c.in-Ok.ensures.done c.in_ok-made-in-Ok.ensures.done

pub returns-in-Err-clause-fault : goal.returns-in-Err-clause-fault
returns-in-Err-clause-fault g c = λ v reserved.
    let a = c.args in
    let first = c.complete_in_need in
    let second = c.create_unwritten in
    completion_cut_off v a.self.now first.new.self second.new.self a.root.now a.is_new a.fields a.guard a.style reserved c.requires.few
    c.requires.able.born first.ensures.work second.ensures.work _ _ c.in-Err.ensures.fault second.ensures.creates
