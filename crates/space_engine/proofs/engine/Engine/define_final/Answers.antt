use Rattle.std.proofs.Common.{◌≡◌, ◌∙◌, ap, rules}
use Rattle.space_heap.specs.HeapView.{HeapView}
use Rattle.space_heap.specs.Objects.{object_of}
use Rattle.space_heap.proofs.ObjectLaws.{occupied_from_object}
use Rattle.space_engine.proofs.FinalCommands.{final_done, final_lacking, final_refused}
use Rattle.space_engine.proofs.engine.Engine.define_final.Goals as goal

pub name-name-requires : goal.name-name-requires
name-name-requires c = occupied_from_object c.self.inside.heap c.in-Ok.address (search rules)

pub returns-in-Err-clause-answers : goal.returns-in-Err-clause-answers
returns-in-Err-clause-answers c = λ s h. final_refused c.args.self.now s h c.args.object.now c.args.label.now c.in-Err.why (c.in-Err.ensures.address s h)

pub returns-in-Ok-put_final-clause-answers : goal.returns-in-Ok-put_final-clause-answers
returns-in-Ok-put_final-clause-answers c = λ s h.
    let heap : c.self.inside.heap ≡ c.args.self.now.heap = search rules in
    let named = c.name-name.ensures ∙ ap (λ (heap : HeapView). (object_of heap c.in-Ok.address).name) heap in
    final_done c.args.self.now s h _ c.args.object.now c.args.label.now c.in-Ok.address _ (c.in-Ok.ensures.address s h) named
    c.in-Ok-put_final.ensures.defined c.put_final.ensures.queue c.put_final.ensures.rest

pub returns-in-Err-put_final-clause-answers : goal.returns-in-Err-put_final-clause-answers
returns-in-Err-put_final-clause-answers c = λ s h.
    rw c.in-Err-put_final.ensures.err
    (final_lacking c.args.self.now s h c.args.object.now c.args.label.now c.in-Ok.address (c.in-Ok.ensures.address s h))
