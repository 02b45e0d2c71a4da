use Rattle.std.proofs.Common.{◌≡◌, ◌+◌, arith, sym, ap, ◌∙◌, inr}
use Rattle.space_io.specs.Reading.{Reading}
use Rattle.space_run.proofs.Replaying.{kept_calm, after_keeping, after_line, after_blank, at_the_end, stops_so, failed_flush, failed_line, malformed_line}
use Rattle.space_run.proofs.Replaying.{read_failed, limit_reached, none_held}
use Rattle.space_run.proofs.line.answer_line.Goals as goal

pub returns-then-is_err-clause-line : goal.returns-then-is_err-clause-line
returns-then-is_err-clause-line g c = λ limit rest written ends before.
    failed_flush limit rest _ written _ _ ends _ _ _ before c.number-given.ensures.most c.flush_before_read.ensures.bytes

pub returns-in-Ok-None-clause-line : goal.returns-in-Ok-None-clause-line
returns-in-Ok-None-clause-line g c =
    let next = c.next.follows.holds-at-none in
    let found = rw c.in-Ok-None.is at next.line in
    let end = rw c.in-Ok-None.field-0-is at found in
    λ limit rest written ends before. at_the_end limit _ _ _ _ _ _ next.mid _ _
    (after_keeping limit rest _ _ written _ _ ends _ _ _ _ _ _ before c.flush_before_read.ensures.bytes c.flush_before_read.ensures.lines next.takes) end

pub returns-in-Ok-None-clause-held : goal.returns-in-Ok-None-clause-held
returns-in-Ok-None-clause-held g c =
    let next = c.next.follows.holds-at-none in
    let found = rw c.in-Ok-None.is at next.line in
    let end = rw c.in-Ok-None.field-0-is at found in
    let either = kept_calm c.flush_before_read.result (sym c.is_err.ensures.value ∙ c.if-is_err.false) c.flush_before_read.ensures.held in
    λ _. none_held _ _ _ _ _ _ next.mid next.takes (rw end.pending tt) (rw c.flush_before_read.ensures.lines either)

pub returns-in-Err-ReadFault-clause-line : goal.returns-in-Err-ReadFault-clause-line
returns-in-Err-ReadFault-clause-line g c =
    let next = c.next.follows.holds-at-none in
    let fault = rw c.in-Err-ReadFault.is at next.fault in
    let failed = rw c.in-Err-ReadFault.field-0-is at fault in
    λ limit rest written ends before. read_failed limit _ _ _ _ _ _ next.mid _
    (after_keeping limit rest _ _ written _ _ ends _ _ _ _ _ _ before c.flush_before_read.ensures.bytes c.flush_before_read.ensures.lines next.takes)
    failed.0 failed.1

pub returns-in-Err-ReadFault-clause-held : goal.returns-in-Err-ReadFault-clause-held
returns-in-Err-ReadFault-clause-held g c =
    let next = c.next.follows.holds-at-none in
    let fault = rw c.in-Err-ReadFault.is at next.fault in
    let failed = rw c.in-Err-ReadFault.field-0-is at fault in
    let either = kept_calm c.flush_before_read.result (sym c.is_err.ensures.value ∙ c.if-is_err.false) c.flush_before_read.ensures.held in
    λ _. none_held _ _ _ _ _ _ next.mid next.takes failed.0.no_lf (rw c.flush_before_read.ensures.lines either)

pub returns-in-Err-InputLimit-clause-line : goal.returns-in-Err-InputLimit-clause-line
returns-in-Err-InputLimit-clause-line g c =
    let next = c.next.follows.holds-at-none in
    let fault = rw c.in-Err-InputLimit.is at next.fault in
    let reached = rw c.in-Err-InputLimit.field-0-is at fault in
    λ limit rest written ends before. limit_reached limit _ _ _ _ _ _ next.mid _
    (after_keeping limit rest _ _ written _ _ ends _ _ _ _ _ _ before c.flush_before_read.ensures.bytes c.flush_before_read.ensures.lines next.takes)
    reached.0 reached.1

pub returns-in-Err-InputLimit-clause-held : goal.returns-in-Err-InputLimit-clause-held
returns-in-Err-InputLimit-clause-held g c =
    let next = c.next.follows.holds-at-none in
    let fault = rw c.in-Err-InputLimit.is at next.fault in
    let reached = rw c.in-Err-InputLimit.field-0-is at fault in
    let either = kept_calm c.flush_before_read.result (sym c.is_err.ensures.value ∙ c.if-is_err.false) c.flush_before_read.ensures.held in
    λ _. none_held _ _ _ _ _ _ next.mid next.takes reached.0.no_lf (rw c.flush_before_read.ensures.lines either)

pub overflow_add-given : goal.overflow_add-given
overflow_add-given g c = omega (arith, c.number-given.ensures.value, c.number-given.ensures.counted)

pub returns-in-Err-TooLong-clause-line : goal.returns-in-Err-TooLong-clause-line
returns-in-Err-TooLong-clause-line g c =
    let next = c.next.follows.holds-at-none in
    let fault = rw c.in-Err-TooLong.is at next.fault in
    let long = rw c.in-Err-TooLong.field-0-is at fault in
    let most = rw (ap (λ (reading : Reading). reading.taken) (rw c.in-Err-TooLong.is at next.same)) at next.most in
    let number : c.number-given.result + 1 ≡ next.mid.number + 1 =
    ap (λ n. n + 1) (c.number-given.ensures.value
    ∙ sym (next.takes.number ∙ ap (λ (reading : Reading). reading.number) c.flush_before_read.ensures.lines)) in
    λ limit rest written ends before. stops_so limit _ _ _ _ _ _ _ next.mid _ _ c.stop_at.result
    (after_keeping limit rest _ _ written _ _ ends _ _ _ _ _ _ before c.flush_before_read.ensures.bytes c.flush_before_read.ensures.lines next.takes)
    most number (inr long) c.stop_at.ensures.ends c.stop_at.ensures.written c.stop_at.ensures.prefix

pub returns-in_default-clause-line : goal.returns-in_default-clause-line
returns-in_default-clause-line g c =
    let next = c.next.follows.holds-at-none in
    let found = rw c.in-Ok-Some.is at next.line in
    let line = rw c.in-Ok-Some.field-0-is at found in
    let most = rw line.gives.taken at next.most in
    let number : c.number-given.result + 1 ≡ next.mid.number + 1 =
    ap (λ n. n + 1) (c.number-given.ensures.value
    ∙ sym (next.takes.number ∙ ap (λ (reading : Reading). reading.number) c.flush_before_read.ensures.lines)) in
    λ limit rest written ends before. stops_so limit _ _ _ _ _ _ _ next.mid _ _ c.stop_at-in_default.result
    (after_keeping limit rest _ _ written _ _ ends _ _ _ _ _ _ before c.flush_before_read.ensures.bytes c.flush_before_read.ensures.lines next.takes)
    most number
    (malformed_line next.mid _ line.gives (rw line.bytes at c.in_default.ensures.malformed)) c.stop_at-in_default.ensures.ends
    c.stop_at-in_default.ensures.written c.stop_at-in_default.ensures.prefix

pub returns-in_default-found-clause-line : goal.returns-in_default-found-clause-line
returns-in_default-found-clause-line g c =
    let next = c.next.follows.holds-at-none in
    let found = rw c.in-Ok-Some.is at next.line in
    let line = rw c.in-Ok-Some.field-0-is at found in
    let reading = rw c.in_default-found.is at c.in-Ok.ensures.found in
    λ limit rest written ends before. after_blank limit _ _ _ _ _ _ next.mid _ _
    (after_keeping limit rest _ _ written _ _ ends _ _ _ _ _ _ before c.flush_before_read.ensures.bytes c.flush_before_read.ensures.lines next.takes)
    line.gives (rw line.bytes at reading)

pub returns-then-is_err-2-clause-line : goal.returns-then-is_err-2-clause-line
returns-then-is_err-2-clause-line g c =
    let next = c.next.follows.holds-at-none in
    let found = rw c.in-Ok-Some.is at next.line in
    let line = rw c.in-Ok-Some.field-0-is at found in
    let most = rw line.gives.taken at next.most in
    let reading = rw c.in-Some.is at c.in-Ok.ensures.found in
    let err = sym c.is_err-2.ensures.value ∙ c.if-is_err-2.true in
    λ limit rest written ends before. failed_line limit _ _ _ _ _ _ _ next.mid _ _ _ c.in-Some.command
    (after_keeping limit rest _ _ written _ _ ends _ _ _ _ _ _ before c.flush_before_read.ensures.bytes c.flush_before_read.ensures.lines next.takes)
    most line.gives (rw line.bytes at reading) c.step.result err c.step.ensures.fault

pub returns-clause-line : goal.returns-clause-line
returns-clause-line g c =
    let next = c.next.follows.holds-at-none in
    let found = rw c.in-Ok-Some.is at next.line in
    let line = rw c.in-Ok-Some.field-0-is at found in
    let reading = rw c.in-Some.is at c.in-Ok.ensures.found in
    let no_err = sym c.is_err-2.ensures.value ∙ c.if-is_err-2.false in
    λ limit rest written ends before. after_line limit _ _ _ _ _ _ _ next.mid _ _ _ c.in-Some.command _ _
    (after_keeping limit rest _ _ written _ _ ends _ _ _ _ _ _ before c.flush_before_read.ensures.bytes c.flush_before_read.ensures.lines next.takes)
    line.gives (rw line.bytes at reading) c.step.result no_err c.step.ensures.done
