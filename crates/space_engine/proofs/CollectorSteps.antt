-- A view stands for a state with another phase, cursor and stale fields where its heap changed no more than these and the words of fields.
use Rattle.std.proofs.Common.{◌≡◌, ◌≢◌, ℕ, List, [], length, refl, sym, ap, ◌∙◌, subst, Some, inl}
use Rattle.std.specs.FinMap.{get}
use Rattle.space_model.specs.declared.phase.Phase.{Phase}
use Rattle.space_model.specs.declared.phase.Phase.TheVariants.{Marking}
use Rattle.space_model.specs.Graph.{item_of}
use Rattle.space_model.specs.State.{State, Collector}
use Rattle.space_heap.specs.Slots.{ObjectView}
use Rattle.space_heap.specs.HeapView.{HeapView, pool_at}
use Rattle.space_heap.specs.Objects.{is_occupied, is_object, is_moved, object_of, resolved}
use Rattle.space_engine.specs.Generations.{HasGenerations}
use Rattle.space_engine.specs.Stands.{IsObjectOf, HasObjects, HasCorpses, HasLeft, HasCounted, HeapRepresents, Represents}
use Rattle.space_engine.specs.Views.{View, with_heap}
use Rattle.space_engine.proofs.GenerationsByName.{same_marks, generations_kept}
use Rattle.space_engine.proofs.ResolvedRoots.{resolved_roots-same}
use Rattle.space_engine.proofs.TablesKept.{ids_led, weak_led}

-- all of an object but the words of its fields
abbrev pub without_words : ObjectView → ObjectView
without_words o = record o { fields = [] }

-- from w to z nothing changed but the phase, the cursor and the words of fields
pub record SameButWords (w z : HeapView) : Type 0 where
  pub standing : (a : ℕ) → is_occupied z a ≡ is_occupied w a
  pub present : (a : ℕ) → is_object z a ≡ is_object w a
  pub objects : (a : ℕ) → without_words (object_of z a) ≡ without_words (object_of w a)
  pub away : (a : ℕ) → is_moved z a ≡ is_moved w a
  pub leads : (word : ℕ) → resolved z word ≡ resolved w word
  pub pools : (page : ℕ) → pool_at z page ≡ pool_at w page
  pub count : length z.pages ≡ length w.pages
  pub limit : z.limit ≡ w.limit
  pub unswept : z.unswept ≡ w.unswept
  pub grey : z.grey ≡ w.grey
  pub counters : z.counters ≡ w.counters

-- the collector with another phase, cursor and stale fields
abbrev pub collector_at : Collector → Phase → ℕ → List (ℕ × ℕ) → Collector
collector_at c phase cursor stale = record c { phase = phase; cursor = cursor; stale = stale }

module _ (v : View) (s : State) (h : Represents v s) (z : HeapView) (same : SameButWords v.heap z) (phase : Phase) (cursor : ℕ) (stale : List (ℕ × ℕ))
    (at : z.phase ≡ phase) (until : z.cursor ≡ cursor) (rested : s.collector.phase ≢ Marking) (rests : phase ≢ Marking)
    (is : (name address : ℕ) → get s.heap.place name ≡ Some address →
    IsObjectOf s.heap.place s.heap.left stale name (item_of s.graph name) (object_of z address)) where
  name_same : (a : ℕ) → (object_of z a).name ≡ (object_of v.heap a).name
  name_same a = ap (λ (o : ObjectView). o.name) (same.objects a)

  objects_then : HasObjects s.graph s.heap.place s.heap.left stale z
  objects_then = record {
    stands = λ n a e. same.present a ∙ h.heap.objects.stands n a e;
    is = is;
    only = λ a e. ap (get s.heap.place) (name_same a) ∙ h.heap.objects.only a (sym (same.present a) ∙ e);
  }

  corpses_then : HasCorpses s.heap.corpses z
  corpses_then = record {
    lies = λ n a e. same.standing a ∙ h.heap.corpses.lies n a e;
    gone = λ n a e. same.present a ∙ h.heap.corpses.gone n a e;
    named = λ n a e. name_same a ∙ h.heap.corpses.named n a e;
    only = λ a e f. ap (get s.heap.corpses) (name_same a) ∙ h.heap.corpses.only a (sym (same.standing a) ∙ e) (sym (same.present a) ∙ f);
  }

  left_then : HasLeft s.heap.place s.heap.left z
  left_then = record {
    lies = λ n a e. same.away a ∙ h.heap.left.lies n a e;
    leads = λ n a e. h.heap.left.leads n a e ∙ ap Some (sym (same.leads a));
    only = λ a e. h.heap.left.only a (sym (same.away a) ∙ e);
  }

  heap_then : HeapRepresents s.graph s.heap (collector_at s.collector phase cursor stale) s.counters z
  heap_then = record {
    objects = objects_then;
    corpses = corpses_then;
    left = left_then;
    pages = record {
      count = h.heap.pages.count ∙ sym same.count;
      pools = λ page. h.heap.pages.pools page ∙ sym (same.pools page);
      limited = h.heap.pages.limited ∙ sym same.limit;
      waiting = h.heap.pages.waiting ∙ sym same.unswept;
    };
    progress = record { at = at; until = until; none_grey = λ _. same.grey ∙ h.heap.progress.none_grey rested };
    counted = subst (HasCounted (length s.graph) s.counters) (sym same.counters) h.heap.counted;
  }

  generations_then : HasGenerations s.graph s.heap.place (collector_at s.collector phase cursor stale) s.history.mixed z
  generations_then = generations_kept s.graph s.graph s.heap.place s.collector s.history.mixed s.history.mixed v.heap z h.generations
      (λ name address e. refl) (λ n m. m)
      (λ name address e. same_marks s.history.mixed name (object_of v.heap address) (object_of z address)
      (ap (λ (o : ObjectView). o.guard) (same.objects address))
      (ap (λ (o : ObjectView). o.age) (same.objects address))
      (ap (λ (o : ObjectView). o.kept) (same.objects address))
      (ap (λ (o : ObjectView). o.remembered) (same.objects address)))
      (λ parent child a c here there child_is aged out. inl child_is) phase cursor stale (λ _. rested) (λ marking. absurd (rests marking))
      (λ marking. absurd (rests marking))

  -- the view with this heap has what the state has then
  pub represents_then : Represents (with_heap v z) (record s { collector = collector_at s.collector phase cursor stale })
  represents_then = record {
    heap = heap_then;
    generations = generations_then;
    colours = λ marking. absurd (rests marking);
    roots = resolved_roots-same v.heap z same.leads v.roots ∙ h.roots;
    stack = h.stack;
    ids = ids_led s.heap.place v.heap z same.leads s.tables.ids v.ids h.ids;
    weak = weak_led s.heap.place v.heap z same.leads s.tables.weak v.weak h.weak;
    finals = h.finals;
  }
