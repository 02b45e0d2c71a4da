use Rattle.std.proofs.Common.{◌≡◌, ◌∙◌, ap, rules}
use Rattle.space_heap.specs.HeapView.{HeapView}
use Rattle.space_heap.specs.Objects.{object_of}
use Rattle.space_heap.proofs.ObjectLaws.{occupied_from_object}
use Rattle.space_engine.proofs.FinalCommands.{unfinal_done, unfinal_refused}
use Rattle.space_engine.proofs.engine.Engine.take_finals.Goals as goal

pub name-name-requires : goal.name-name-requires
name-name-requires c = occupied_from_object c.self.inside.heap c.in-Ok.address (search rules)

pub returns-in-Err-clause-answers : goal.returns-in-Err-clause-answers
returns-in-Err-clause-answers c = λ s h. unfinal_refused c.args.self.now s h c.args.object.now c.in-Err.why (c.in-Err.ensures.address s h)

pub returns-clause-answers : goal.returns-clause-answers
returns-clause-answers c = λ s h.
    let heap : c.self.inside.heap ≡ c.args.self.now.heap = search rules in
    let named = c.name-name.ensures ∙ ap (λ (heap : HeapView). (object_of heap c.in-Ok.address).name) heap in
    unfinal_done c.args.self.now s h _ c.args.object.now c.in-Ok.address _ _ (c.in-Ok.ensures.address s h) named
    c.take_finals_of.ensures.count c.take_finals_of.ensures.defined c.take_finals_of.ensures.queue c.take_finals_of.ensures.rest
