use Rattle.std.proofs.Common.{◌≡◌, ◌∙◌, subst, rules, ap}
use Rattle.space_model.specs.Operands.{word_value}
use Rattle.space_heap.specs.HeapView.{HeapView}
use Rattle.space_heap.specs.Objects.{resolved}
use Rattle.space_ids.specs.declared.ids.Found.TheVariants.{Never, Gone, Here}
use Rattle.space_ids.specs.GivenIds.{GivenIds, IsFound}
use Rattle.space_engine.proofs.IdCommands.{by_id_never, by_id_gone, by_id_here}
use Rattle.space_engine.proofs.engine.Engine.by_id.Goals as goal

pub returns-in-Never-clause-answers : goal.returns-in-Never-clause-answers
returns-in-Never-clause-answers c = λ s h.
    let ids : c.self.inside.ids ≡ c.args.self.now.ids = search rules in
    by_id_never c.args.self.now s h c.args.root.now c.args.id (subst (λ (ids : GivenIds). IsFound ids c.args.id Never) ids c.in-Never.ensures)

pub returns-in-Gone-clause-answers : goal.returns-in-Gone-clause-answers
returns-in-Gone-clause-answers c = λ s h.
    let ids : c.self.inside.ids ≡ c.args.self.now.ids = search rules in
    by_id_gone c.args.self.now s h c.args.root.now c.args.id (subst (λ (ids : GivenIds). IsFound ids c.args.id Gone) ids c.in-Gone.ensures)

pub returns-in-Here-clause-answers : goal.returns-in-Here-clause-answers
returns-in-Here-clause-answers c = λ s h.
    let ids : c.self.inside.ids ≡ c.args.self.now.ids = search rules in
    let heap : c.self.inside.heap ≡ c.args.self.now.heap = search rules in
    let word = c.resolve-address.ensures ∙ ap (λ (heap : HeapView). resolved heap c.in-Here.kept) heap in
    by_id_here c.args.self.now s h _ c.args.root.now c.args.id c.in-Here.kept _
    (subst (λ (ids : GivenIds). IsFound ids c.args.id (Here c.in-Here.kept)) ids c.in-Here.ensures)
    (λ value e. c.hand_out.ensures.written s value h (ap (word_value s.heap.place) word ∙ e))
