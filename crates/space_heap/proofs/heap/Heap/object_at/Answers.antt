use Rattle.std.proofs.Common.{◌≡◌, ◌<◌, ◌&&◌, not, true, false, sym, ap, ◌∙◌, subst, length, Some, None}
use Rattle.std.proofs.lemmas.Bool.{cond-true, cond-false}
use Rattle.space_planes.specs.Planes.{bit}
use Rattle.space_heap.specs.Objects.{is_object}
use Rattle.space_heap.proofs.fields.Here.{none_object, page_here, slot_here, object_here}
use Rattle.space_heap.proofs.heap.Heap.object_at.Goals as goal

pub marks_of-requires : goal.marks_of-requires
marks_of-requires c = page_here c.self.inside _ c.self.view_is _ _ _ c.self.invariant c.in-Some.ensures.place

pub is_present-requires-clause-within : goal.is_present-requires-clause-within
is_present-requires-clause-within c = subst (λ m. c.in-Some.slot < length m.object) (sym c.marks_of.ensures)
    (slot_here c.self.inside _ c.self.view_is _ _ _ c.self.invariant c.in-Some.ensures.place)

pub returns-then-is_present : goal.returns-then-is_present
returns-then-is_present c =
    let e : is_object c.args.self.now c.args.word ≡ true =
    object_here c.self.inside _ c.self.view_is _ _ _ c.self.invariant c.in-Some.ensures.place
    ∙ ap (λ m. bit m.object c.in-Some.slot && not (bit m.gone c.in-Some.slot)) (sym c.marks_of.ensures)
    ∙ sym c.is_present.ensures
    ∙ c.if-is_present.true in
    sym (cond-true (is_object c.args.self.now c.args.word) (Some c.args.word) None e)

pub returns-else-is_present : goal.returns-else-is_present
returns-else-is_present c =
    let e : is_object c.args.self.now c.args.word ≡ false =
    object_here c.self.inside _ c.self.view_is _ _ _ c.self.invariant c.in-Some.ensures.place
    ∙ ap (λ m. bit m.object c.in-Some.slot && not (bit m.gone c.in-Some.slot)) (sym c.marks_of.ensures)
    ∙ sym c.is_present.ensures
    ∙ c.if-is_present.false in
    sym (cond-false (is_object c.args.self.now c.args.word) (Some c.args.word) None e)

pub returns-in-None : goal.returns-in-None
returns-in-None c = sym (cond-false (is_object c.args.self.now c.args.word) (Some c.args.word) None
    (none_object c.self.inside _ c.self.view_is _ c.in-None.ensures.place))
