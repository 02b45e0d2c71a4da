use Rattle.std.proofs.Common.{◌≡◌, ◌∙◌, sym, ap, rules}
use Rattle.space_heap.specs.HeapView.{HeapView}
use Rattle.space_heap.specs.Objects.{is_object}
use Rattle.space_heap.proofs.ObjectLaws.{occupied_from_object}
use Rattle.space_engine.proofs.WeakCommands.{weak_key_told, weak_key_refused}
use Rattle.space_engine.proofs.engine.Engine.weak_key.Goals as goal

pub name-requires : goal.name-requires
name-requires c =
    let heap : c.self.inside.heap ≡ c.args.self.now.heap = search rules in
    occupied_from_object c.self.inside.heap c.in-Ok.key (ap (λ (heap : HeapView). is_object heap c.in-Ok.key) heap ∙ c.in-Ok.ensures.there)

pub returns-in-Ok : goal.returns-in-Ok
returns-in-Ok c =
    let address = rw (sym c.self.view_is) at c.in-Ok.ensures.address in
    rw (← c.self.view_is, c.has.ensures.answer, c.name.ensures)
    (record { answers = λ s h. weak_key_told _ s h c.args.weak.now c.args.key.now c.in-Ok.key (address s h) })

pub returns-in-Err : goal.returns-in-Err
returns-in-Err c = record { answers = λ s h. weak_key_refused c.args.self.now s h c.args.weak.now c.args.key.now c.in-Err.why (c.in-Err.ensures.address s h) }
