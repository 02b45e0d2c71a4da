-- The heap's half after a field of an object was written, in every phase.
use Rattle.std.proofs.Common.{◌≡◌, ◌≢◌, ℕ, ◌+◌, ◌-◌, ◌<◌, cond, List, length, set, refl, ap, sym, ◌∙◌, subst, arith, Some, ⊎_elim}
use Rattle.std.specs.FinMap.{get}
use Rattle.std.proofs.lemmas.Bool.{cases_eq}
use Rattle.std.proofs.lemmas.List.{get_or-set_same, get_or-set_other, length-set}
use Rattle.space_model.specs.declared.value.Value.{Value}
use Rattle.space_model.specs.Graph.{Item, no_item, item_of}
use Rattle.space_model.specs.Operands.{value_word}
use Rattle.space_model.specs.Pieces.{item_written, field_written}
use Rattle.space_model.specs.Sound.{Sound}
use Rattle.space_model.proofs.SlotLaws.{item_of-at, with_item-at}
use Rattle.space_model.proofs.StoredWordLaws.{map_from_same, words_written}
use Rattle.space_model.specs.State.{State, Collector}
use Rattle.space_heap.specs.Slots.{ObjectView}
use Rattle.space_heap.specs.HeapView.{HeapView}
use Rattle.space_heap.specs.Objects.{object_of, written}
use Rattle.space_heap.proofs.FreeLaws.{is_moved-with_object}
use Rattle.space_heap.proofs.ObjectLaws.{occupied_from_object, is_occupied-with_object, object_of-with_object_same, object_of-with_object_other, stays, is_object-with_object, resolved-with_object, pool_at-with_object, count-with_object, rest-with_object}
use Rattle.space_engine.specs.Stands.{IsObjectOf, HasObjects, HasCorpses, HasLeft, HasCounted, HeapRepresents, Represents}
use Rattle.space_model.specs.StoredWords.{without_pair, stored_word}
use Rattle.space_engine.specs.Views.{View}
use Rattle.space_engine.proofs.Outcomes.{some_same}
use Rattle.space_engine.proofs.StoredWords.{is_stale-other}

module _ (v : View) (s : State) (h : Represents v s) (sound : Sound s) (name address index : ℕ) (value : Value)
    (at : get s.heap.place name ≡ Some address) where
  abbrev graph' : List Item
  graph' = set s.graph (name - 1) (item_written (item_of s.graph name) index value)

  abbrev stale' : List (ℕ × ℕ)
  stale' = without_pair s.collector.stale name index

  abbrev word : ℕ
  word = value_word s.heap.place value

  abbrev object : ObjectView
  object = let o : ObjectView = object_of v.heap address in record o { fields = set o.fields index word }

  abbrev w : HeapView
  w = written v.heap address index word

  item_same : item_of graph' name ≡ item_written (item_of s.graph name) index value
  item_same =
      let born = sound.layout.placed.allocated name address at in
      let some = born.0 in
      let most = born.1 in
      item_of-at graph' name some ∙ get_or-set_same s.graph (name - 1) (item_written (item_of s.graph name) index value) no_item (omega arith)

  item_other : (n : ℕ) → 0 < n → n ≢ name → item_of graph' n ≡ item_of s.graph n
  item_other n some other =
      let born = (sound.layout.placed.allocated name address at).0 in
      item_of-at graph' n some
      ∙ get_or-set_other s.graph (name - 1) (n - 1) (item_written (item_of s.graph name) index value) no_item (λ same. other (omega arith))
      ∙ sym (item_of-at s.graph n some)

  object_here : IsObjectOf s.heap.place s.heap.left stale' name (item_of graph' name) (object_of w address)
  object_here =
      let was = h.heap.objects.is name address at in
      subst (IsObjectOf s.heap.place s.heap.left stale' name (item_of graph' name))
      (sym (object_of-with_object_same v.heap address object (occupied_from_object v.heap address (h.heap.objects.stands name address at))))
      (subst (λ item. IsObjectOf s.heap.place s.heap.left stale' name item object) (sym item_same) (record {
        named = was.named;
        guard = was.guard;
        style = was.style;
        fields = ap (λ fields. set fields index word) was.fields
            ∙ words_written s.heap.place s.heap.left s.collector.stale name index value (item_of s.graph name).values;
      }))

  object_there : (n b : ℕ) → n ≢ name → get s.heap.place n ≡ Some b → IsObjectOf s.heap.place s.heap.left stale' n (item_of graph' n) (object_of v.heap b)
  object_there n b other e =
      let was = h.heap.objects.is n b e in
      subst (λ item. IsObjectOf s.heap.place s.heap.left stale' n item (object_of v.heap b)) (sym (item_other n (sound.layout.placed.allocated n b e).0 other))
      (record {
        named = was.named;
        guard = was.guard;
        style = was.style;
        fields = was.fields
            ∙ map_from_same (stored_word s.heap.place s.heap.left s.collector.stale n) (stored_word s.heap.place s.heap.left stale' n) 0
            (item_of s.graph n).values
            (λ i old _. ap (λ c. cond c (value_word s.heap.left old) (value_word s.heap.place old))
            (sym (is_stale-other s.collector.stale name index n (0 + i) other)));
      })

  objects_written : HasObjects graph' s.heap.place s.heap.left stale' w
  objects_written = record {
    stands = λ n b e. is_object-with_object v.heap address object b refl ∙ h.heap.objects.stands n b e;
    is = λ n b e. ⊎_elim
        (λ same.
        let here : n ≡ name = sound.layout.placed.once n name address (e ∙ ap Some same) at in
        subst (λ n. IsObjectOf s.heap.place s.heap.left stale' n (item_of graph' n) (object_of w b)) (sym here)
        (subst (λ b. IsObjectOf s.heap.place s.heap.left stale' name (item_of graph' name) (object_of w b)) (sym same) object_here))
        (λ other.
        let apart : n ≢ name = λ same. other (some_same b address (sym e ∙ ap (get s.heap.place) same ∙ at)) in
        subst (IsObjectOf s.heap.place s.heap.left stale' n (item_of graph' n)) (sym (object_of-with_object_other v.heap address object b other))
        (object_there n b apart e))
        (cases_eq b address);
    only = λ b e.
        ap (get s.heap.place) (stays (λ (o : ObjectView). o.name) v.heap address object b refl)
        ∙ h.heap.objects.only b (sym (is_object-with_object v.heap address object b refl) ∙ e);
  }

  corpses_written : HasCorpses s.heap.corpses w
  corpses_written = record {
    lies = λ n b e. is_occupied-with_object v.heap address object b ∙ h.heap.corpses.lies n b e;
    gone = λ n b e. is_object-with_object v.heap address object b refl ∙ h.heap.corpses.gone n b e;
    named = λ n b e. stays (λ (o : ObjectView). o.name) v.heap address object b refl ∙ h.heap.corpses.named n b e;
    only = λ b e f.
        ap (get s.heap.corpses) (stays (λ (o : ObjectView). o.name) v.heap address object b refl)
        ∙ h.heap.corpses.only b (sym (is_occupied-with_object v.heap address object b) ∙ e) (sym (is_object-with_object v.heap address object b refl) ∙ f);
  }

  left_written : HasLeft s.heap.place s.heap.left w
  left_written = record {
    lies = λ n b e. is_moved-with_object v.heap address object b ∙ h.heap.left.lies n b e;
    leads = λ n b e. h.heap.left.leads n b e ∙ ap Some (sym (resolved-with_object v.heap address object b));
    only = λ b e. h.heap.left.only b (sym (is_moved-with_object v.heap address object b) ∙ e);
  }

  heap_written : HeapRepresents graph' s.heap (let c : Collector = s.collector in record c { stale = stale' }) s.counters w
  heap_written =
      let others = rest-with_object v.heap address object in
      record {
        objects = objects_written;
        corpses = corpses_written;
        left = left_written;
        pages = record {
          count = h.heap.pages.count ∙ sym (count-with_object v.heap address object);
          pools = λ page. h.heap.pages.pools page ∙ sym (pool_at-with_object v.heap address object page);
          limited = h.heap.pages.limited ∙ sym others.limit;
          waiting = h.heap.pages.waiting ∙ sym others.unswept;
        };
        progress = record {
          at = others.phase ∙ h.heap.progress.at;
          until = others.cursor ∙ h.heap.progress.until;
          none_grey = λ phase. others.grey ∙ h.heap.progress.none_grey phase;
        };
        counted = subst (λ n. HasCounted n s.counters w.counters) (sym (length-set s.graph (name - 1) (item_written (item_of s.graph name) index value)))
            (subst (HasCounted (length s.graph) s.counters) (sym others.counters) h.heap.counted);
      }

  -- the heap's half after the write, which leaves no stale field there
  pub heap_after_write : HeapRepresents (field_written s name index value).graph s.heap (field_written s name index value).collector s.counters w
  heap_after_write = subst (λ graph. HeapRepresents graph s.heap (let c : Collector = s.collector in record c { stale = stale' }) s.counters w)
      (sym (with_item-at s.graph name (item_written (item_of s.graph name) index value) (sound.layout.placed.allocated name address at).0))
      heap_written
