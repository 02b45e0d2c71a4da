-- What a view has after a store, with the write barrier or without it, in every phase.
use Rattle.std.proofs.Common.{◌≡◌, ℕ, ◌<◌, false, length, ◌∙◌, Some}
use Rattle.std.specs.FinMap.{get}
use Rattle.space_model.specs.declared.value.Value.{Value}
use Rattle.space_model.specs.Moments.{noted}
use Rattle.space_model.specs.Operands.{value_word}
use Rattle.space_model.specs.Pieces.{field_written}
use Rattle.space_model.specs.State.{State}
use Rattle.space_model.proofs.ValuesKept.{IsPresentValue, IsReachedValue}
use Rattle.space_heap.specs.HeapView.{HeapView}
use Rattle.space_heap.specs.Objects.{object_of, written}
use Rattle.space_heap.proofs.ObjectLaws.{occupied_from_object, resolved-with_object}
use Rattle.space_barrier.specs.Barrier.{stored}
use Rattle.space_heap.specs.Generations.{is_protected_at}
use Rattle.space_engine.specs.Stands.{Represents, Holds}
use Rattle.space_engine.specs.Views.{View, with_field, with_raw_field}
use Rattle.space_engine.proofs.BarredStores.{IsBarred, stored_is, heap_barred}
use Rattle.space_engine.proofs.ColoursStored.{colours_raw, colours_stored}
use Rattle.space_engine.proofs.FieldChanges.{heap_after_write}
use Rattle.space_engine.proofs.GenerationsStored.{generations_raw, generations_stored}
use Rattle.space_engine.proofs.ResolvedRoots.{resolved_roots-same}
use Rattle.space_engine.proofs.TablesKept.{ids_led, weak_led}

module _ (v : View) (s : State) (h : Holds v s) (name address index : ℕ) (value : Value) (at : get s.heap.place name ≡ Some address) where
  abbrev word : ℕ
  word = value_word s.heap.place value

  abbrev w : HeapView
  w = written v.heap address index word

  -- a field of an object that the write barrier doesn't protect holds the word of the value, which isn't stale
  pub after_raw_store : is_protected_at v.heap address ≡ false → Represents (with_raw_field v address index word) (noted (field_written s name index value))
  after_raw_store free = record {
    heap = heap_after_write v s h.represents h.sound name address index value at;
    generations = generations_raw v s h name address index value at free;
    colours = colours_raw v s h name address index value at free;
    roots = resolved_roots-same v.heap w (resolved-with_object v.heap address _) v.roots ∙ h.represents.roots;
    stack = h.represents.stack;
    ids = ids_led s.heap.place v.heap w (resolved-with_object v.heap address _) s.tables.ids v.ids h.represents.ids;
    weak = weak_led s.heap.place v.heap w (resolved-with_object v.heap address _) s.tables.weak v.weak h.represents.weak;
    finals = h.represents.finals;
  }

  -- a field of any object holds it, by the rules of the write barrier
  pub after_store : IsPresentValue s.heap.place value → IsReachedValue s value → index < length (object_of v.heap address).fields →
      Represents (with_field v address index word) (noted (field_written s name index value))
  after_store present reached field =
      let z : HeapView = stored v.heap address index word in
      let barrier : IsBarred w z address word =
      stored_is v.heap address index word (occupied_from_object v.heap address (h.represents.heap.objects.stands name address at)) in
      record {
        heap = heap_barred (field_written s name index value).graph s.heap (field_written s name index value).collector s.counters w z address word barrier
            (heap_after_write v s h.represents h.sound name address index value at);
        generations = generations_stored v s h name address index value at present field;
        colours = colours_stored v s h name address index value at present reached;
        roots = resolved_roots-same v.heap z (λ a. barrier.same.moves a ∙ resolved-with_object v.heap address _ a) v.roots ∙ h.represents.roots;
        stack = h.represents.stack;
        ids = ids_led s.heap.place v.heap z (λ a. barrier.same.moves a ∙ resolved-with_object v.heap address _ a) s.tables.ids v.ids h.represents.ids;
        weak = weak_led s.heap.place v.heap z (λ a. barrier.same.moves a ∙ resolved-with_object v.heap address _ a) s.tables.weak v.weak h.represents.weak;
        finals = h.represents.finals;
      }
