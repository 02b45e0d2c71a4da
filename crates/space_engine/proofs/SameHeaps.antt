-- The heap's half holds where nothing changed but colours, remembered and kept marks, and in a marking the list of grey addresses.
use Rattle.std.proofs.Common.{◌≡◌, ◌≢◌, ℕ, length, Some, sym, ap, ◌∙◌, subst}
use Rattle.std.specs.FinMap.{get}
use Rattle.space_model.specs.declared.phase.Phase.TheVariants.{Marking}
use Rattle.space_model.specs.Graph.{Item}
use Rattle.space_model.specs.State.{Heap, Collector, Counters}
use Rattle.std.specs.Prelude.{List}
use Rattle.space_heap.specs.Slots.{ObjectView}
use Rattle.space_heap.specs.HeapView.{HeapView}
use Rattle.space_heap.specs.Objects.{is_object, object_of}
use Rattle.space_tracing.specs.Graph.{SameGraph}
use Rattle.space_tracing.proofs.Same.{same_part, is_object-same}
use Rattle.space_engine.specs.Stands.{HasObjects, HasCorpses, HasLeft, HasCounted, HeapRepresents}

module _ (graph : List Item) (own : Heap) (collector : Collector) (counters : Counters) (w z : HeapView) (same : SameGraph w z)
    (grey : w.phase ≢ Marking → z.grey ≡ w.grey) (h : HeapRepresents graph own collector counters w) where
  name_same : (c : ℕ) → (object_of z c).name ≡ (object_of w c).name
  name_same c = same_part (λ (o : ObjectView). o.name) w z c same

  present_same : (c : ℕ) → is_object z c ≡ is_object w c
  present_same c = is_object-same w z c same

  objects_same : HasObjects graph own.place own.left collector.stale z
  objects_same = record {
    stands = λ n c e. present_same c ∙ h.objects.stands n c e;
    is = λ n c e.
        let was = h.objects.is n c e in
        record {
          named = name_same c ∙ was.named;
          guard = same_part (λ (o : ObjectView). o.guard) w z c same ∙ was.guard;
          style = same_part (λ (o : ObjectView). o.style) w z c same ∙ was.style;
          fields = same_part (λ (o : ObjectView). o.fields) w z c same ∙ was.fields;
        };
    only = λ c e. ap (get own.place) (name_same c) ∙ h.objects.only c (sym (present_same c) ∙ e);
  }

  corpses_same : HasCorpses own.corpses z
  corpses_same = record {
    lies = λ n c e. same.standing c ∙ h.corpses.lies n c e;
    gone = λ n c e. present_same c ∙ h.corpses.gone n c e;
    named = λ n c e. name_same c ∙ h.corpses.named n c e;
    only = λ c e f. ap (get own.corpses) (name_same c) ∙ h.corpses.only c (sym (same.standing c) ∙ e) (sym (present_same c) ∙ f);
  }

  left_same : HasLeft own.place own.left z
  left_same = record {
    lies = λ n c e. same.away c ∙ h.left.lies n c e;
    leads = λ n c e. h.left.leads n c e ∙ ap Some (sym (same.moves c));
    only = λ c e. h.left.only c (sym (same.away c) ∙ e);
  }

  pub heap_same : HeapRepresents graph own collector counters z
  heap_same = record {
    objects = objects_same;
    corpses = corpses_same;
    left = left_same;
    pages = record {
      count = h.pages.count ∙ sym same.count;
      pools = λ page. h.pages.pools page ∙ sym (same.pools page);
      limited = h.pages.limited ∙ sym same.limit;
      waiting = h.pages.waiting ∙ sym same.unswept;
    };
    progress = record {
      at = same.phase ∙ h.progress.at;
      until = same.cursor ∙ h.progress.until;
      none_grey = λ phase. grey (λ e. phase (sym h.progress.at ∙ e)) ∙ h.progress.none_grey phase;
    };
    counted = subst (HasCounted (length graph) counters) (sym same.counters) h.counted;
  }
