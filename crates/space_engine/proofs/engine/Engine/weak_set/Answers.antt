-- The entry is set under the names of the objects at both addresses.
use Rattle.std.proofs.Common.{◌≡◌, ◌∙◌, sym, ap, true, rules}
use Rattle.space_heap.specs.HeapView.{HeapView}
use Rattle.space_heap.specs.Objects.{is_object}
use Rattle.space_heap.proofs.ObjectLaws.{occupied_from_object}
use Rattle.space_engine.proofs.WeakCommands.{both_there, weak_set_done, weak_set_lacking, weak_set_refused}
use Rattle.space_engine.proofs.WordResults.{same_both}
use Rattle.space_engine.proofs.engine.Engine.weak_set.Goals as goal
use Rattle.space_engine.proofs.engine.Engine.weak_set.Goals.{in-Ok-set, in-Err-set}

pub returns-in-Err-clause-answers : goal.returns-in-Err-clause-answers
returns-in-Err-clause-answers c = λ s h.
    weak_set_refused c.args.self.now s h c.args.weak.now c.args.key.now c.args.value.now c.in-Err.why
    (c.in-Err.ensures ∙ same_both _ _ _ _ (c.address_of.ensures.address s h) (c.address_of-2.ensures.address s h))

pub name-key_name-requires : goal.name-key_name-requires
name-key_name-requires c =
    let heap : c.self.inside.heap ≡ c.args.self.now.heap = search rules in
    let there = both_there (λ a. is_object c.args.self.now.heap a ≡ true) c.in-Ok.addresses.0 c.in-Ok.addresses.1 _ _ c.in-Ok.ensures
    c.address_of.ensures.there c.address_of-2.ensures.there in
    occupied_from_object c.self.inside.heap c.in-Ok.addresses.0 (ap (λ (heap : HeapView). is_object heap c.in-Ok.addresses.0) heap ∙ there.0)

pub name-value_name-requires : goal.name-value_name-requires
name-value_name-requires c =
    let heap : c.self.inside.heap ≡ c.args.self.now.heap = search rules in
    let there = both_there (λ a. is_object c.args.self.now.heap a ≡ true) c.in-Ok.addresses.0 c.in-Ok.addresses.1 _ _ c.in-Ok.ensures
    c.address_of.ensures.there c.address_of-2.ensures.there in
    occupied_from_object c.self.inside.heap c.in-Ok.addresses.1 (ap (λ (heap : HeapView). is_object heap c.in-Ok.addresses.1) heap ∙ there.1)

pub returns-clause-answers : goal.returns-clause-answers
returns-clause-answers c =
    let key = rw (sym c.self.view_is) at c.address_of.ensures.address in
    let value = rw (sym c.self.view_is) at c.address_of-2.ensures.address in
    rw (← c.self.view_is) (elim c.match-set.branch [
      | in-Ok-set w ↦ λ s h. rw w.result-is
          (weak_set_done _ s h c.set.new.self c.args.weak.now c.args.key.now c.args.value.now c.in-Ok.addresses.0 c.in-Ok.addresses.1
          (c.in-Ok.ensures ∙ same_both _ _ _ _ (key s h) (value s h))
          (rw (c.name-key_name.ensures, c.name-value_name.ensures) at w.in-Ok-set.ensures.ok))
      | in-Err-set w ↦ λ s h. rw (w.result-is, w.in-Err-set.ensures.err)
          (weak_set_lacking _ s h c.args.weak.now c.args.key.now c.args.value.now c.in-Ok.addresses.0 c.in-Ok.addresses.1
          (c.in-Ok.ensures ∙ same_both _ _ _ _ (key s h) (value s h))
          (rw c.name-key_name.ensures at w.in-Err-set.ensures.absent))
    ])
