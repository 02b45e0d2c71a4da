use Rattle.std.proofs.Common.{◌≡◌, ◌≤◌, ◌<◌, true, length, refl, sym, ap, ◌∙◌, subst}
use Rattle.std.specs.Prelude.{vec_capacity}
use Rattle.space_heap.specs.HeapView.{HeapView}
use Rattle.space_heap.specs.Objects.{is_occupied, object_of, written}
use Rattle.space_heap.specs.Marking.{IsCoherent}
use Rattle.space_heap.specs.Inside.{view_with, view_from, rest_of}
use Rattle.space_heap.proofs.fields.Here.{start_of_object, used_here}
use Rattle.space_heap.proofs.updates.Writes.{written_view, written_marks, written_limit, written_places, field_within}
use Rattle.space_heap.proofs.Coherence.{coherent_with_object}
use Rattle.space_heap.proofs.heap.Heap.write_word.Goals as goal

pub write_field-requires-clause-used : goal.write_field-requires-clause-used
write_field-requires-clause-used c = used_here c.self.inside _ c.self.view_is _ _ _ c.self.invariant c.slot_of-page.ensures.at c.requires.object

pub write_field-requires-clause-within : goal.write_field-requires-clause-within
write_field-requires-clause-within c =
    let h = c.self.inside in
    let e : is_occupied (view_from h) c.args.address ≡ true = ap (λ v. is_occupied v c.args.address) c.self.view_is ∙ c.requires.object in
    let f : c.args.i < length (object_of (view_from h) c.args.address).fields =
    subst (λ (v : HeapView). c.args.i < length (object_of v c.args.address).fields) (sym c.self.view_is) c.requires.field in
    field_within h.pools h.marks.items (rest_of h) c.args.address c.slot_of-page.result.0 c.slot_of-page.result.1 c.args.i c.self.invariant.marks
    c.slot_of-page.ensures.sound c.slot_of-page.ensures.at e f

-- the view after the word was written
view : (c : goal.After-write_field) → view_with c.write_field.new.pools c.self.inside.marks.items (rest_of c.self.inside) ≡ written (view_from c.self.inside)
    c.args.address c.args.i c.args.word
view c =
    let h = c.self.inside in
    let e : is_occupied (view_from h) c.args.address ≡ true = ap (λ v. is_occupied v c.args.address) c.self.view_is ∙ c.requires.object in
    let f : c.args.i < length (object_of (view_from h) c.args.address).fields =
    subst (λ (v : HeapView). c.args.i < length (object_of v c.args.address).fields) (sym c.self.view_is) c.requires.field in
    written_view h.pools c.write_field.new.pools h.marks.items (rest_of h) c.args.address c.slot_of-page.result.0 c.slot_of-page.result.1 c.args.i
    c.args.word c.self.invariant.marks c.slot_of-page.ensures.at e f c.write_field.ensures

pub invariant_of-self : goal.invariant_of-self
invariant_of-self c =
    let h = c.self.inside in
    let e : is_occupied (view_from h) c.args.address ≡ true = ap (λ v. is_occupied v c.args.address) c.self.view_is ∙ c.requires.object in
    let f : c.args.i < length (object_of (view_from h) c.args.address).fields =
    subst (λ (v : HeapView). c.args.i < length (object_of v c.args.address).fields) (sym c.self.view_is) c.requires.field in
    record {
      marks = written_marks h.pools c.write_field.new.pools h.marks.items (rest_of h) c.args.address c.slot_of-page.result.0 c.slot_of-page.result.1 c.args.i
          c.args.word c.self.invariant.marks c.slot_of-page.ensures.at e f c.write_field.ensures;
      room = subst (λ n. n ≤ vec_capacity h.marks) (sym (written_limit h.pools c.write_field.new.pools h.marks.items (rest_of h) c.args.address
          c.slot_of-page.result.0 c.slot_of-page.result.1 c.args.i c.args.word c.self.invariant.marks c.slot_of-page.ensures.at e f c.write_field.ensures))
          c.self.invariant.room;
      places = written_places h.pools c.write_field.new.pools h.marks.items (rest_of h) c.args.address c.slot_of-page.result.0 c.slot_of-page.result.1
          c.args.i c.args.word c.self.invariant.marks c.slot_of-page.ensures.at e f c.write_field.ensures (vec_capacity h.grey) c.self.invariant.places;
      coherent = subst IsCoherent (sym (view c)) (coherent_with_object (view_from h) c.args.address _ refl refl c.self.invariant.coherent);
    }

pub returns : goal.returns
returns c = view c ∙ ap (λ v. written v c.args.address c.args.i c.args.word) c.self.view_is

pub slot_of-page-requires : goal.slot_of-page-requires
slot_of-page-requires c = start_of_object c.self.inside _ c.self.view_is _ c.requires.object
