use Rattle.std.proofs.Common.{◌≡◌, ◌∙◌, sym, ap, rules, Some}
use Rattle.space_heap.specs.HeapView.{HeapView}
use Rattle.space_heap.specs.Objects.{object_of}
use Rattle.space_engine.proofs.HeapReads.{there, not_there}
use Rattle.space_engine.proofs.Reading.{name_found, no_name}
use Rattle.space_engine.proofs.engine.Engine.name_of.Goals as goal

pub name-requires : goal.name-requires
name-requires c = (there c.self.inside.heap c.args.word c.in-Some.address (search rules)).stands

pub returns-in-Some : goal.returns-in-Some
returns-in-Some c = λ s h.
    let at = there c.args.self.now.heap c.args.word c.in-Some.address (search rules) in
    let heap : c.self.inside.heap ≡ c.args.self.now.heap = search rules in
    ap Some (c.name.ensures ∙ ap (λ (heap : HeapView). (object_of heap c.in-Some.address).name) heap
    ∙ ap (λ a. (object_of c.args.self.now.heap a).name) at.same)
    ∙ sym (name_found c.args.self.now s h c.args.word at.is)

pub returns-in-None : goal.returns-in-None
returns-in-None c = λ s h. sym (no_name c.args.self.now s h c.args.word (not_there c.args.self.now.heap c.args.word (search rules)))
