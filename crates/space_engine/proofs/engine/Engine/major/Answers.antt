-- The start of a marking, after what was under way was completed, with its lines written whole or in part.
use Rattle.space_engine.specs.Inside.{view_of}
use Rattle.space_engine.specs.Views.{View}
use Rattle.space_engine.proofs.MajorCommand.{major_answered, major_cut_off, major_turn}
use Rattle.space_engine.proofs.Outcomes.{on_err}
use Rattle.space_engine.proofs.engine.Engine.major.Goals as goal

pub returns-in_err-gone-clause-fault : goal.returns-in_err-gone-clause-fault
returns-in_err-gone-clause-fault g c =
    let mid = c.complete-ended in
    let parts : View = view_of c.self.inside in
    on_err c.from_residual.result _
    (major_cut_off c.args.self.now mid.new.self parts c.self.view_is mid.ensures.idle c.requires.able c.start.new.heap c.start.ensures _ _
    c.in_err-gone.ensures.fault)

pub returns-in_err-gone-clause-turn : goal.returns-in_err-gone-clause-turn
returns-in_err-gone-clause-turn g c =
    let mid = c.complete-ended in
    let parts : View = view_of c.self.inside in
    major_turn c.args.self.now mid.new.self parts c.self.view_is mid.ensures.idle c.requires.able c.start.new.heap c.start.ensures
    mid.ensures.judged

pub returns-clause-done : goal.returns-clause-done
returns-clause-done g c =
    let mid = c.complete-ended in
    let parts : View = view_of c.self.inside in
    major_answered c.args.self.now mid.new.self parts c.self.view_is mid.ensures.idle c.requires.able c.start.new.heap c.start.ensures
    c.in_ok-gone.field-0.gone c.in_ok-gone.field-0.moves _ _ _ _ c.in_ok-gone.ensures.done

pub returns-clause-turn : goal.returns-clause-turn
returns-clause-turn g c =
    let mid = c.complete-ended in
    let parts : View = view_of c.self.inside in
    major_turn c.args.self.now mid.new.self parts c.self.view_is mid.ensures.idle c.requires.able c.start.new.heap c.start.ensures
    mid.ensures.judged
