-- Each end of an allocation for which no compaction has to be completed.
use Rattle.std.proofs.Common.{ap, Err}
use Rattle.std.proofs.lemmas.Result.{IfOk-weaker, on_err_weaker}
use Rattle.space_model.specs.Layout.{pool_for}
use Rattle.space_engine.specs.declared.engine.Answer.{Answer}
use Rattle.space_engine.proofs.Creations.{first_told, given_up, late_told, late_cut}
use Rattle.space_engine.proofs.NewTurns.{names_after, able_after, idle_after, rests_after, work_later}
use Rattle.space_engine.proofs.engine.Engine.create_ready.Goals as goal

pub create_at_limit-requires-clause-rests : goal.create_at_limit-requires-clause-rests
create_at_limit-requires-clause-rests g c =
    let a = c.args in
    let lacks = c.in-Err-AtLimit.ensures in
    rests_after a.self.now c.allocate_for_root.new.self (pool_for a.fields) lacks.failed lacks.work c.requires.able.quiescent c.requires.ready
    (lacks.at_limit (ap Err c.in-Err-AtLimit.field-0-is)).0

pub create_at_limit-requires-clause-names : goal.create_at_limit-requires-clause-names
create_at_limit-requires-clause-names g c =
    let a = c.args in
    let lacks = c.in-Err-AtLimit.ensures in
    names_after a.self.now c.allocate_for_root.new.self (pool_for a.fields) lacks.failed lacks.work c.requires.names

pub create_at_limit-requires-clause-able : goal.create_at_limit-requires-clause-able
create_at_limit-requires-clause-able g c =
    let a = c.args in
    let lacks = c.in-Err-AtLimit.ensures in
    able_after a.self.now c.allocate_for_root.new.self (pool_for a.fields) lacks.failed lacks.work c.requires.able c.requires.freed

pub returns-in-Ok-clause-done : goal.returns-in-Ok-clause-done
returns-in-Ok-clause-done g c =
    let a = c.args in
    rw (c.silent.ensures.reply, c.silent.ensures.gone)
    (first_told a.self.now c.allocate_for_root.new.self a.root.now a.is_new a.fields a.guard a.style _ _ _ c.in-Ok.ensures.allocated)

pub returns-in-Err-NoMemory-clause-done : goal.returns-in-Err-NoMemory-clause-done
returns-in-Err-NoMemory-clause-done g c =
    let a = c.args in
    let lacks = c.in-Err-NoMemory.ensures in
    rw (c.silent-in-Err-NoMemory.ensures.reply, c.silent-in-Err-NoMemory.ensures.gone)
    (first_told a.self.now c.free_root.new.self a.root.now a.is_new a.fields a.guard a.style _ _ _
    (given_up a.self.now c.allocate_for_root.new.self c.free_root.new.self a.root.now a.is_new (pool_for a.fields) lacks.failed c.free_root.ensures
    (lacks.no_memory (ap Err c.in-Err-NoMemory.field-0-is))))

pub returns-in-Err-AtLimit-clause-done : goal.returns-in-Err-AtLimit-clause-done
returns-in-Err-AtLimit-clause-done g c =
    let a = c.args in
    let lacks = c.in-Err-AtLimit.ensures in
    let late = c.create_at_limit in
    IfOk-weaker late.result _ _
    (λ (answer : Answer) told.
    late_told a.self.now late.new.self a.root.now a.is_new a.fields a.guard a.style c.allocate_for_root.new.self lacks.failed
    (lacks.at_limit (ap Err c.in-Err-AtLimit.field-0-is)) _ _ answer.reply answer.gone _ _ told)
    late.ensures.done

pub returns-in-Err-AtLimit-clause-fault : goal.returns-in-Err-AtLimit-clause-fault
returns-in-Err-AtLimit-clause-fault g c =
    let a = c.args in
    let lacks = c.in-Err-AtLimit.ensures in
    let late = c.create_at_limit in
    on_err_weaker late.result
    (late_cut a.self.now late.new.self a.root.now a.is_new a.fields a.guard a.style c.allocate_for_root.new.self lacks.failed
    (lacks.at_limit (ap Err c.in-Err-AtLimit.field-0-is)) _ _)
    late.ensures.fault

pub returns-in-Err-AtLimit-clause-work : goal.returns-in-Err-AtLimit-clause-work
returns-in-Err-AtLimit-clause-work g c =
    let a = c.args in
    let lacks = c.in-Err-AtLimit.ensures in
    work_later a.self.now c.allocate_for_root.new.self (pool_for a.fields) lacks.failed lacks.work c.create_at_limit.new.self.heap
    c.create_at_limit.ensures.work

pub returns-in-Err-AtLimit-clause-still : goal.returns-in-Err-AtLimit-clause-still
returns-in-Err-AtLimit-clause-still g c = λ idle.
    let a = c.args in
    let lacks = c.in-Err-AtLimit.ensures in
    c.create_at_limit.ensures.still (idle_after a.self.now c.allocate_for_root.new.self (pool_for a.fields) lacks.failed lacks.work idle)
