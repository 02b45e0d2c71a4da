-- What comes of a collection and one more allocation.
use Rattle.space_engine.proofs.Creations.{retried_told, retried_cut}
use Rattle.space_engine.proofs.NewTurns.{work_late}
use Rattle.space_engine.proofs.Outcomes.{on_err}
use Rattle.space_engine.proofs.engine.Engine.create_at_limit.Goals as goal

pub returns-in_err-gone-clause-fault : goal.returns-in_err-gone-clause-fault
returns-in_err-gone-clause-fault g c =
    let a = c.args in
    let first = c.collect_and_tell-collected in
    let second = c.allocate_at_limit-reply in
    on_err c.from_residual.result _
    (retried_cut a.self.now first.new.self second.new.self a.root.now a.is_new a.fields a.guard a.style second.result c.requires.rests
    second.ensures.last _ _ c.in_err-gone.ensures.fault)

pub returns-in_err-gone-clause-work : goal.returns-in_err-gone-clause-work
returns-in_err-gone-clause-work g c =
    let a = c.args in
    let first = c.collect_and_tell-collected in
    let second = c.allocate_at_limit-reply in
    work_late a.self.now.heap first.new.self second.new.self a.root.now a.is_new a.fields a.guard a.style second.result
    first.ensures.judged second.ensures.last second.ensures.work

pub returns-clause-done : goal.returns-clause-done
returns-clause-done g c =
    let a = c.args in
    let first = c.collect_and_tell-collected in
    let second = c.allocate_at_limit-reply in
    let told = c.in_ok-gone in
    retried_told a.self.now first.new.self second.new.self a.root.now a.is_new a.fields a.guard a.style second.result c.requires.rests
    second.ensures.last _ _ told.field-0.scans told.field-0.gone told.field-0.moves _ _ told.ensures.done

pub returns-clause-work : goal.returns-clause-work
returns-clause-work g c =
    let a = c.args in
    let first = c.collect_and_tell-collected in
    let second = c.allocate_at_limit-reply in
    work_late a.self.now.heap first.new.self second.new.self a.root.now a.is_new a.fields a.guard a.style second.result
    first.ensures.judged second.ensures.last second.ensures.work
