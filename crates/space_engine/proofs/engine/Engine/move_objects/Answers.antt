-- Moves, written whole or in part; and the refusal where no objects may move.
use Rattle.std.proofs.Common.{rules, ◌≡◌, sym, subst}
use Rattle.space_model.specs.declared.phase.Phase.TheVariants.{Moving}
use Rattle.space_engine.specs.Inside.{view_of}
use Rattle.space_engine.specs.Turns.{CanAnswer}
use Rattle.space_engine.specs.Views.{View}
use Rattle.space_engine.proofs.CompactionCommands.{move_told, move_cut, move_refused, move_turn}
use Rattle.space_engine.proofs.Outcomes.{on_err}
use Rattle.space_engine.proofs.engine.Engine.move_objects.Goals as goal

pub returns-then-ne-clause-done : goal.returns-then-ne-clause-done
returns-then-ne-clause-done g c =
    rw (c.silent.ensures.reply, c.silent.ensures.gone, c.silent.ensures.moves) (move_refused c.args.self.now (search rules) c.args.count _ _)

pub returns-in_err-told-clause-fault : goal.returns-in_err-told-clause-fault
returns-in_err-told-clause-fault g c =
    let made = c.move_and_tell-told in
    let able = subst (λ (v : View). CanAnswer v.heap) (sym c.self.view_is) c.requires.able in
    let moving : c.self.inside.heap.phase ≡ Moving = search rules in
    on_err c.from_residual.result _
    (rw (← c.self.view_is)
    (move_cut (view_of c.self.inside) able moving made.new.heap c.args.count made.result.0.moved made.result.0.done made.result.1
    c.in_err-told.field-0.0 c.in_err-told.was _ _ made.ensures.told))

pub returns-clause-done : goal.returns-clause-done
returns-clause-done g c =
    let made = c.move_and_tell-told in
    let able = subst (λ (v : View). CanAnswer v.heap) (sym c.self.view_is) c.requires.able in
    let moving : c.self.inside.heap.phase ≡ Moving = search rules in
    rw (← c.self.view_is)
    (move_told (view_of c.self.inside) able moving made.new.heap c.args.count made.result.0.moved made.result.0.done made.result.1
    c.in_ok-told.field-0 c.in_ok-told.was _ _ made.ensures.told _ _ made.ensures.ticked.0)

pub returns-clause-turn : goal.returns-clause-turn
returns-clause-turn g c =
    let made = c.move_and_tell-told in
    let able = subst (λ (v : View). CanAnswer v.heap) (sym c.self.view_is) c.requires.able in
    let moving : c.self.inside.heap.phase ≡ Moving = search rules in
    rw (← c.self.view_is)
    (move_turn (view_of c.self.inside) able moving made.new.heap c.args.count made.result.0.moved made.result.0.done made.ensures.keeps
    made.ensures.told.moving.few (made.ensures.quiescent moving))
