use Rattle.std.proofs.Common.{◌<◌, sym, ap, ◌∙◌, subst, length, nat_lt}
use Rattle.space_model.specs.Ages.{is_protected_guard}
use Rattle.space_heap.specs.declared.marks.Traits.{Traits}
use Rattle.space_heap.specs.Objects.{is_occupied}
use Rattle.space_heap.specs.Generations.{kept_at}
use Rattle.space_heap.specs.words.SlotPlaces.{IsPlace}
use Rattle.space_heap.proofs.ObjectLaws.{occupied_from_object}
use Rattle.space_heap.proofs.fields.Here.{none_object, page_here, slot_here, place_here, present_object, told_here}
use Rattle.space_heap.proofs.VisitLaws.{is_occupied-visited, place-visited, aged_none, young_none, aged_protected, young_protected, aged_unprotected, young_unprotected}
use Rattle.space_heap.proofs.heap.Heap.visit_from_aged.Goals as goal

pub marks_of-marks-requires : goal.marks_of-marks-requires
marks_of-marks-requires c = page_here c.self.inside _ c.self.view_is _ _ _ c.self.invariant c.in-Some.ensures.place

pub is_present-requires-clause-within : goal.is_present-requires-clause-within
is_present-requires-clause-within c = subst (λ m. c.in-Some.slot < length m.object) (sym c.marks_of-marks.ensures)
    (slot_here c.self.inside _ c.self.view_is _ _ _ c.self.invariant c.in-Some.ensures.place)

pub grey_slot_if_white-requires : goal.grey_slot_if_white-requires
grey_slot_if_white-requires c = place_here c.self.inside _ c.self.view_is _ _ _ c.in-Some.ensures.place

-- no slot starts at the word
pub returns-in_default-clause-visited : goal.returns-in_default-clause-visited
returns-in_default-clause-visited c =
    sym (aged_none c.args.self.now c.args.word (none_object c.self.inside _ c.self.view_is _ c.in_default.ensures.place))

pub returns-in_default-clause-young : goal.returns-in_default-clause-young
returns-in_default-clause-young c =
    young_none c.args.self.now c.args.word (none_object c.self.inside _ c.self.view_is _ c.in_default.ensures.place)

-- the slot holds no object
pub returns-then-not-is_present-clause-visited : goal.returns-then-not-is_present-clause-visited
returns-then-not-is_present-clause-visited c = sym (aged_none c.args.self.now c.args.word
    (present_object c.self.inside _ c.self.view_is _ _ _ c.self.invariant c.in-Some.ensures.place _ _ c.marks_of-marks.ensures c.is_present.ensures ∙ c.if-not-is_present.true))

pub returns-then-not-is_present-clause-young : goal.returns-then-not-is_present-clause-young
returns-then-not-is_present-clause-young c = young_none c.args.self.now c.args.word
    (present_object c.self.inside _ c.self.view_is _ _ _ c.self.invariant c.in-Some.ensures.place _ _ c.marks_of-marks.ensures c.is_present.ensures ∙ c.if-not-is_present.true)

-- the object is protected
pub returns-in-Protected-clause-visited : goal.returns-in-Protected-clause-visited
returns-in-Protected-clause-visited c = c.grey_slot_if_white.ensures ∙ sym (aged_protected c.args.self.now c.args.word (present_object c.self.inside _ c.self.view_is _ _ _ c.self.invariant c.in-Some.ensures.place _ _ c.marks_of-marks.ensures c.is_present.ensures
    ∙ c.if-not-is_present.false)
    (ap (λ (t : Traits). is_protected_guard t.guard) (sym (told_here c.self.inside _ c.self.view_is _ _ _ c.self.invariant c.in-Some.ensures.place _ _ c.marks_of-marks.ensures c.is_present.ensures
    c.if-not-is_present.false _ c.traits-traits.ensures.traits)) ∙ ap is_protected_guard c.in-Protected.is))

pub returns-in-Protected-clause-young : goal.returns-in-Protected-clause-young
returns-in-Protected-clause-young c = ap (λ (t : Traits). nat_lt t.age 2) (told_here c.self.inside _ c.self.view_is _ _ _ c.self.invariant c.in-Some.ensures.place _ _ c.marks_of-marks.ensures c.is_present.ensures
    c.if-not-is_present.false _ c.traits-traits.ensures.traits) ∙ young_protected c.args.self.now c.args.word (present_object c.self.inside _ c.self.view_is _ _ _ c.self.invariant c.in-Some.ensures.place _ _ c.marks_of-marks.ensures c.is_present.ensures
    ∙ c.if-not-is_present.false)
    (ap (λ (t : Traits). is_protected_guard t.guard) (sym (told_here c.self.inside _ c.self.view_is _ _ _ c.self.invariant c.in-Some.ensures.place _ _ c.marks_of-marks.ensures c.is_present.ensures
    c.if-not-is_present.false _ c.traits-traits.ensures.traits)) ∙ ap is_protected_guard c.in-Protected.is)

-- the object is unprotected
pub keep_in_slot-requires-clause-object : goal.keep_in_slot-requires-clause-object
keep_in_slot-requires-clause-object c =
    ap (λ v. is_occupied v c.args.word) c.grey_slot_if_white.ensures
    ∙ is_occupied-visited c.args.self.now c.args.word c.args.word
    ∙ occupied_from_object c.args.self.now c.args.word (present_object c.self.inside _ c.self.view_is _ _ _ c.self.invariant c.in-Some.ensures.place _ _ c.marks_of-marks.ensures c.is_present.ensures
    ∙ c.if-not-is_present.false)

pub keep_in_slot-requires-clause-place : goal.keep_in_slot-requires-clause-place
keep_in_slot-requires-clause-place c = subst (λ v. IsPlace v c.args.word c.in-Some.page c.in-Some.slot) (sym c.grey_slot_if_white.ensures)
    (place-visited c.args.self.now c.args.word c.args.word _ _ (place_here c.self.inside _ c.self.view_is _ _ _ c.in-Some.ensures.place))

pub returns-in-Unprotected-clause-visited : goal.returns-in-Unprotected-clause-visited
returns-in-Unprotected-clause-visited c =
    c.keep_in_slot.ensures
    ∙ ap (λ v. kept_at v c.args.word) c.grey_slot_if_white.ensures
    ∙ sym (aged_unprotected c.args.self.now c.args.word (present_object c.self.inside _ c.self.view_is _ _ _ c.self.invariant c.in-Some.ensures.place _ _ c.marks_of-marks.ensures c.is_present.ensures
    ∙ c.if-not-is_present.false)
    (ap (λ (t : Traits). is_protected_guard t.guard) (sym (told_here c.self.inside _ c.self.view_is _ _ _ c.self.invariant c.in-Some.ensures.place _ _ c.marks_of-marks.ensures c.is_present.ensures
    c.if-not-is_present.false _ c.traits-traits.ensures.traits)) ∙ ap is_protected_guard c.in-Unprotected.is))

pub returns-in-Unprotected-clause-young : goal.returns-in-Unprotected-clause-young
returns-in-Unprotected-clause-young c = young_unprotected c.args.self.now c.args.word (present_object c.self.inside _ c.self.view_is _ _ _ c.self.invariant c.in-Some.ensures.place _ _ c.marks_of-marks.ensures c.is_present.ensures
    ∙ c.if-not-is_present.false)
    (ap (λ (t : Traits). is_protected_guard t.guard) (sym (told_here c.self.inside _ c.self.view_is _ _ _ c.self.invariant c.in-Some.ensures.place _ _ c.marks_of-marks.ensures c.is_present.ensures
    c.if-not-is_present.false _ c.traits-traits.ensures.traits)) ∙ ap is_protected_guard c.in-Unprotected.is)
