-- What is handed out is what the entry of the key leads to.
use Rattle.std.proofs.Common.{◌≡◌, ◌∙◌, ap, rules}
use Rattle.space_model.specs.Operands.{word_value}
use Rattle.space_heap.specs.HeapView.{HeapView}
use Rattle.space_heap.specs.Objects.{is_object, object_of, resolved}
use Rattle.space_heap.proofs.ObjectLaws.{occupied_from_object}
use Rattle.space_engine.proofs.WeakCommands.{weak_got, weak_got_nil, weak_get_refused}
use Rattle.space_engine.proofs.engine.Engine.weak_get.Goals as goal

pub returns-in-Err-clause-answers : goal.returns-in-Err-clause-answers
returns-in-Err-clause-answers c =
    λ s h. weak_get_refused c.args.self.now s h c.args.root.now c.args.weak.now c.args.key.now c.in-Err.why (c.in-Err.ensures.address s h)

pub name-requires : goal.name-requires
name-requires c =
    let heap : c.self.inside.heap ≡ c.args.self.now.heap = search rules in
    occupied_from_object c.self.inside.heap c.in-Ok.key (ap (λ (heap : HeapView). is_object heap c.in-Ok.key) heap ∙ c.in-Ok.ensures.there)

pub returns-in-Some-clause-answers : goal.returns-in-Some-clause-answers
returns-in-Some-clause-answers c = λ s h.
    let heap : c.self.inside.heap ≡ c.args.self.now.heap = search rules in
    let entries : c.self.inside.weak ≡ c.args.self.now.weak = search rules in
    let name = c.name.ensures ∙ ap (λ (heap : HeapView). (object_of heap c.in-Ok.key).name) heap in
    let word = c.resolve-word.ensures ∙ ap (λ (heap : HeapView). resolved heap c.in-Some.kept) heap in
    weak_got c.args.self.now s h _ c.args.root.now c.args.weak.now c.args.key.now c.in-Ok.key c.in-Some.kept _ (c.in-Ok.ensures.address s h)
    (rw (entries, name) at c.in-Some.ensures.value)
    (λ value e. c.hand_out.ensures.written s value h (ap (word_value s.heap.place) word ∙ e))

pub returns-in-None-clause-answers : goal.returns-in-None-clause-answers
returns-in-None-clause-answers c = λ s h.
    let heap : c.self.inside.heap ≡ c.args.self.now.heap = search rules in
    let entries : c.self.inside.weak ≡ c.args.self.now.weak = search rules in
    let name = c.name.ensures ∙ ap (λ (heap : HeapView). (object_of heap c.in-Ok.key).name) heap in
    weak_got_nil c.args.self.now s h _ c.args.root.now c.args.weak.now c.args.key.now c.in-Ok.key _ (c.in-Ok.ensures.address s h)
    (rw (entries, name) at c.in-None.ensures.value)
    (λ value e. c.hand_out-in-None.ensures.written s value h e)
