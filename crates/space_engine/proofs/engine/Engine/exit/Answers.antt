-- All was emptied, then each finalizer that waited ran, and the reply tells how many.
use Rattle.std.proofs.Common.{◌≡◌, ◌≤◌, ◌∙◌, ap, arith, length, take_all, drop_of_length-le}
use Rattle.space_engine.specs.Views.{View}
use Rattle.space_engine.proofs.ExitCommand.{few_wait, exit_cut_off, running_cut_off, reply_cut_off, exit_written}
use Rattle.space_engine.proofs.Outcomes.{on_err}
use Rattle.space_engine.proofs.engine.Engine.exit.Goals as goal

pub returns-in-Err-clause-fault : goal.returns-in-Err-clause-fault
returns-in-Err-clause-fault g c =
    let mid = c.empty_and_tell-emptied in
    let same = ap (λ (v : View). v.finals) c.self.view_is in
    let few : length mid.new.self.finals.queue ≤ c.len-waiting.result = few_wait _ _ _ same c.len-waiting.ensures in
    let most = c.len-waiting.type_inv in
    exit_cut_off c.args.self.now mid.new.self c.drop_queue.new.self c.drop_queue.ensures.rest c.requires.able
    c.drop_queue.ensures.spelled (omega (arith, few, most), tt) _ _ c.in-Err.ensures.fault

pub returns-in_err-ran-clause-fault : goal.returns-in_err-ran-clause-fault
returns-in_err-ran-clause-fault g c =
    let mid = c.empty_and_tell-emptied in
    let queue = mid.new.self.finals.queue in
    let same = ap (λ (v : View). v.finals) c.self.view_is in
    let few : length queue ≤ c.len-waiting.result = few_wait _ _ _ same c.len-waiting.ensures in
    let most = c.len-waiting.type_inv in
    let all = take_all c.len-waiting.result queue few in
    let none = drop_of_length-le queue few in
    on_err c.from_residual.result _
    (running_cut_off c.args.self.now mid.new.self c.run_and_tell.new.self (rw none at c.run_and_tell.ensures.rest) c.requires.able
    (rw all at c.run_and_tell.ensures.spelled) (omega (arith, few, most), tt) c.in-Ok.told.gone c.in-Ok.told.moves _ _ _ _ c.in-Ok.ensures.done _
    (rw all at c.in_err-ran.ensures.fault))

pub returns-in_err-write_reply-clause-fault : goal.returns-in_err-write_reply-clause-fault
returns-in_err-write_reply-clause-fault g c =
    let mid = c.empty_and_tell-emptied in
    let queue = mid.new.self.finals.queue in
    let same = ap (λ (v : View). v.finals) c.self.view_is in
    let few : length queue ≤ c.len-waiting.result = few_wait _ _ _ same c.len-waiting.ensures in
    let most = c.len-waiting.type_inv in
    let all = take_all c.len-waiting.result queue few in
    let none = drop_of_length-le queue few in
    let many : c.in_ok-ran.ran ≡ length queue = c.in_ok-ran.ensures.ran ∙ ap length all in
    on_err c.from_residual-in_err-write_reply.result _
    (reply_cut_off c.args.self.now mid.new.self c.run_and_tell.new.self (rw none at c.run_and_tell.ensures.rest) c.requires.able
    (rw all at c.run_and_tell.ensures.spelled) (omega (arith, few, most), tt) c.in-Ok.told.gone c.in-Ok.told.moves _ _ _ _ c.in-Ok.ensures.done _ _
    (rw all at c.in_ok-ran.ensures.done) (rw many at c.write_reply.ensures.prefix))

pub returns-clause-done : goal.returns-clause-done
returns-clause-done g c =
    let mid = c.empty_and_tell-emptied in
    let queue = mid.new.self.finals.queue in
    let same = ap (λ (v : View). v.finals) c.self.view_is in
    let few : length queue ≤ c.len-waiting.result = few_wait _ _ _ same c.len-waiting.ensures in
    let most = c.len-waiting.type_inv in
    let all = take_all c.len-waiting.result queue few in
    let none = drop_of_length-le queue few in
    let many : c.in_ok-ran.ran ≡ length queue = c.in_ok-ran.ensures.ran ∙ ap length all in
    rw many
    (exit_written c.args.self.now mid.new.self c.run_and_tell.new.self (rw none at c.run_and_tell.ensures.rest) c.requires.able
    (rw all at c.run_and_tell.ensures.spelled) (omega (arith, few, most), tt) c.in-Ok.told.gone c.in-Ok.told.moves _ _ _ _ c.in-Ok.ensures.done _ _
    (rw all at c.in_ok-ran.ensures.done) (rw many at c.in_ok-write_reply.ensures.bytes))
