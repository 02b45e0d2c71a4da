use Rattle.std.proofs.Common.{◌≡◌, ◌∙◌, sym, ap, rules}
use Rattle.space_heap.specs.HeapView.{HeapView}
use Rattle.space_heap.specs.Objects.{is_object}
use Rattle.space_heap.proofs.ObjectLaws.{occupied_from_object}
use Rattle.space_engine.proofs.WeakCommands.{weak_deleted, weak_delete_refused}
use Rattle.space_engine.proofs.engine.Engine.weak_delete.Goals as goal

pub name-requires : goal.name-requires
name-requires c =
    let heap : c.self.inside.heap ≡ c.args.self.now.heap = search rules in
    occupied_from_object c.self.inside.heap c.in-Ok.key (ap (λ (heap : HeapView). is_object heap c.in-Ok.key) heap ∙ c.in-Ok.ensures.there)

pub returns-in-Ok-clause-answers : goal.returns-in-Ok-clause-answers
returns-in-Ok-clause-answers c =
    let address = rw (sym c.self.view_is) at c.in-Ok.ensures.address in
    rw (← c.self.view_is, c.delete.ensures.answer, c.name.ensures)
    (λ s h. weak_deleted _ s h c.delete.new.self c.args.weak.now c.args.key.now c.in-Ok.key (address s h) (rw c.name.ensures at c.delete.ensures.rest))

pub returns-in-Err-clause-answers : goal.returns-in-Err-clause-answers
returns-in-Err-clause-answers c = λ s h. weak_delete_refused c.args.self.now s h c.args.weak.now c.args.key.now c.in-Err.why (c.in-Err.ensures.address s h)
