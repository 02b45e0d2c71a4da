-- After a compaction ended the space stands for the state after its end.
use Rattle.std.proofs.Common.{◌≡◌, ◌+◌, ℕ, true, false, true≢false, List, [], length, refl, sym, ap, ◌∙◌, subst, arith, None, Some, ⊎_elim, inl}
use Rattle.std.specs.Ordering.{nat_cmp}
use Rattle.std.specs.FinMap.{get, empty, get-empty}
use Rattle.std.proofs.lemmas.Bool.{cases_Bool, cond-true, cond-false}
use Rattle.space_model.specs.declared.phase.Phase.TheVariants.{Idle, Fixing}
use Rattle.space_model.specs.declared.value.Value.{Value}
use Rattle.space_model.specs.Compaction.{HasNoVisit, all_spared, compaction_ended as state_ended}
use Rattle.space_model.specs.Graph.{item_of}
use Rattle.space_model.specs.Layout.{page_of}
use Rattle.space_model.specs.Pages.{pool_at as pool_of_page, is_used}
use Rattle.space_model.specs.State.{State}
use Rattle.space_model.specs.StoredWords.{is_stale, stored_words}
use Rattle.space_model.proofs.CompactionKept.{length-all_spared, pool_at-all_spared, Sound-compaction_ended}
use Rattle.space_model.proofs.MapLaws.{some_get}
use Rattle.space_model.proofs.PageLaws.{user, used_by}
use Rattle.space_model.proofs.StoredWordLaws.{words_fresh}
use Rattle.space_model.proofs.SweepKept.{no_corpse}
use Rattle.space_heap.specs.Slots.{ObjectView}
use Rattle.space_heap.specs.HeapView.{HeapView, Counters as HeapCounters, pool_at}
use Rattle.space_heap.specs.Objects.{is_occupied, is_object, object_of, HasNoMoved}
use Rattle.space_heap.specs.Relocation.{ended}
use Rattle.space_heap.specs.SoundHeap.{IsSoundHeap}
use Rattle.space_heap.proofs.CursorLaws.{is_occupied-at_cursor, is_object-at_cursor, object_of-at_cursor, is_moved-at_cursor}
use Rattle.space_heap.proofs.EndedLaws.{is_occupied-ended, is_object-ended, object_of-ended, is_moved-ended, count-ended, unswept-ended, limit-ended, grey-ended, counters-ended}
use Rattle.space_heap.proofs.EndedPools.{pool_at-ended_kept, pool_at-ended_spare}
use Rattle.space_heap.proofs.ObjectLaws.{occupied_from_object}
use Rattle.space_heap.proofs.PhaseLaws.{in_phase, is_occupied-in_phase, is_object-in_phase, object_of-in_phase, is_moved-in_phase}
use Rattle.space_engine.specs.Generations.{HasGenerations}
use Rattle.space_engine.specs.Stands.{HasObjects, HasCorpses, HasLeft, HasPages, HasProgress, HasCounted, IsObjectOf, Represents, Holds}
use Rattle.space_engine.specs.Views.{View, compaction_ended}
use Rattle.space_engine.proofs.EndedTables.{roots_ended, ids_ended, weak_ended}
use Rattle.space_engine.proofs.GenerationsByName.{generations_kept, same_object}
use Rattle.space_engine.proofs.Outcomes.{none_some}

-- the heap after the end: objects are the same, and nothing is moved
module _ (v : HeapView) where
  abbrev pub rested : HeapView
  rested = record (ended v) { phase = Idle; cursor = 0 }

  pub is_occupied-rested : (a : ℕ) → is_occupied rested a ≡ is_occupied v a
  is_occupied-rested a = is_occupied-at_cursor (in_phase (ended v) Idle) 0 a ∙ is_occupied-in_phase (ended v) Idle a ∙ is_occupied-ended v a

  pub is_object-rested : (a : ℕ) → is_object rested a ≡ is_object v a
  is_object-rested a = is_object-at_cursor (in_phase (ended v) Idle) 0 a ∙ is_object-in_phase (ended v) Idle a ∙ is_object-ended v a

  pub object_of-rested : (a : ℕ) → object_of rested a ≡ object_of v a
  object_of-rested a = object_of-at_cursor (in_phase (ended v) Idle) 0 a ∙ object_of-in_phase (ended v) Idle a ∙ object_of-ended v a

  pub none_moved-rested : HasNoMoved rested
  none_moved-rested a = is_moved-at_cursor (in_phase (ended v) Idle) 0 a ∙ is_moved-in_phase (ended v) Idle a ∙ is_moved-ended v a

module _ (v : View) (s : State) (h : Holds v s) (fixing : s.collector.phase ≡ Fixing) (none : HasNoVisit s) (sound : IsSoundHeap v.heap) where
  abbrev heap : HeapView
  heap = v.heap

  abbrev z : HeapView
  z = rested v.heap

  -- a stale field would be one of an object that waits for its visit
  none_stale : (n i : ℕ) → is_stale s.collector.stale n i ≡ false
  none_stale n i = ⊎_elim
      (λ stale.
      let at = some_get (get s.heap.place n) (h.sound.stale.fields n i stale).present in
      let above = h.sound.stale.unvisited n i at.0 stale at.1 in
      let below = none n at.0 at.1 in
      absurd (omega arith))
      (λ fresh. fresh)
      (cases_Bool (is_stale s.collector.stale n i))

  words_settled : (n : ℕ) (values : List Value) →
      stored_words s.heap.place s.heap.left s.collector.stale n values ≡ stored_words s.heap.place empty [] n values
  words_settled n values =
      words_fresh s.heap.place s.heap.left s.collector.stale n values (none_stale n) ∙ sym (words_fresh s.heap.place empty [] n values (λ i. refl))

  objects_ended : HasObjects s.graph s.heap.place empty [] z
  objects_ended = record {
    stands = λ n a e. is_object-rested heap a ∙ h.represents.heap.objects.stands n a e;
    is = λ n a e.
        let was = h.represents.heap.objects.is n a e in
        subst (IsObjectOf s.heap.place empty [] n (item_of s.graph n)) (sym (object_of-rested heap a)) (record {
          named = was.named;
          guard = was.guard;
          style = was.style;
          fields = was.fields ∙ words_settled n (item_of s.graph n).values;
        });
    only = λ a e. ap (λ (o : ObjectView). get s.heap.place o.name) (object_of-rested heap a)
        ∙ h.represents.heap.objects.only a (sym (is_object-rested heap a) ∙ e);
  }

  -- no corpse waits for a sweep
  none_lies : (n a : ℕ) → get s.heap.corpses n ≡ Some a → ⊥
  none_lies = no_corpse s.graph s.heap.place s.heap.corpses s.collector.phase s.heap.pages s.heap.unswept h.sound.corpses h.sound.sweep (λ e. cc)

  corpses_ended : HasCorpses s.heap.corpses z
  corpses_ended = record {
    lies = λ n a e. absurd (none_lies n a e);
    gone = λ n a e. absurd (none_lies n a e);
    named = λ n a e. absurd (none_lies n a e);
    only = λ a e f. ap (λ (o : ObjectView). get s.heap.corpses o.name) (object_of-rested heap a)
        ∙ h.represents.heap.corpses.only a (sym (is_occupied-rested heap a) ∙ e) (sym (is_object-rested heap a) ∙ f);
  }

  left_ended : HasLeft s.heap.place empty z
  left_ended = record {
    lies = λ n a e. absurd (none_some a (sym (get-empty nat_cmp n) ∙ e));
    leads = λ n a e. absurd (none_some a (sym (get-empty nat_cmp n) ∙ e));
    only = λ a e. absurd (true≢false (sym e ∙ none_moved-rested heap a));
  }

  -- where no name stands nothing does
  vacant : (page : ℕ) → is_used s.heap.place page ≡ false → (a : ℕ) → page_of a ≡ page → is_occupied heap a ≡ false
  vacant page unused a on = ⊎_elim
      (λ (stands : is_occupied heap a ≡ true). ⊎_elim
      (λ (is : is_object heap a ≡ true).
      absurd (true≢false (sym (used_by s.heap.place page (object_of heap a).name a (h.represents.heap.objects.only a is) on) ∙ unused)))
      (λ (gone : is_object heap a ≡ false). absurd (none_lies (object_of heap a).name a (h.represents.heap.corpses.only a stands gone)))
      (cases_Bool (is_object heap a)))
      (λ free. free)
      (cases_Bool (is_occupied heap a))

  -- a page keeps its pool where a name stands on it
  pools_ended : (page : ℕ) → pool_of_page (all_spared s.heap.place 0 s.heap.pages) page ≡ pool_at z page
  pools_ended page = pool_at-all_spared s.heap.place s.heap.pages page ∙ ⊎_elim
      (λ (used : is_used s.heap.place page ≡ true).
      let it = user s.heap.place page used in
      cond-true (is_used s.heap.place page) (pool_of_page s.heap.pages page) None used
      ∙ h.represents.heap.pages.pools page
      ∙ sym (pool_at-ended_kept heap page it.1 it.3 (occupied_from_object heap it.1 (h.represents.heap.objects.stands it.0 it.1 it.2))))
      (λ (unused : is_used s.heap.place page ≡ false).
      cond-false (is_used s.heap.place page) (pool_of_page s.heap.pages page) None unused
      ∙ sym (pool_at-ended_spare heap page sound (vacant page unused)))
      (cases_Bool (is_used s.heap.place page))

  pages_ended : HasPages (all_spared s.heap.place 0 s.heap.pages) s.heap.limit s.heap.unswept z
  pages_ended = record {
    count = length-all_spared s.heap.place 0 s.heap.pages ∙ h.represents.heap.pages.count ∙ sym (count-ended heap);
    pools = pools_ended;
    limited = h.represents.heap.pages.limited ∙ sym (limit-ended heap);
    waiting = h.sound.sweep.none (λ e. cc) ∙ sym (unswept-ended heap);
  }

  progress_ended : HasProgress Idle 0 z
  progress_ended = record {
    at = refl;
    until = refl;
    none_grey = λ rest. grey-ended heap ∙ h.represents.heap.progress.none_grey (λ e. cc);
  }

  counter : (f : HeapCounters → ℕ) → f z.counters ≡ f (record heap.counters { compactions = heap.counters.compactions + 1 })
  counter f = ap f (counters-ended heap)

  counted_ended : HasCounted (length s.graph) (record s.counters { compactions = s.counters.compactions + 1 }) z.counters
  counted_ended = record {
    allocated = counter (λ (c : HeapCounters). c.born) ∙ h.represents.heap.counted.allocated;
    minor_verdicts = counter (λ (c : HeapCounters). c.minor_verdicts) ∙ h.represents.heap.counted.minor_verdicts;
    other_verdicts = counter (λ (c : HeapCounters). c.other_verdicts) ∙ h.represents.heap.counted.other_verdicts;
    freed = counter (λ (c : HeapCounters). c.freed) ∙ h.represents.heap.counted.freed;
    compactions = counter (λ (c : HeapCounters). c.compactions) ∙ ap (λ n. n + 1) h.represents.heap.counted.compactions;
    moves = counter (λ (c : HeapCounters). c.moves) ∙ h.represents.heap.counted.moves;
  }

  generations_ended : HasGenerations s.graph s.heap.place (state_ended s).collector s.history.mixed z
  generations_ended = generations_kept s.graph s.graph s.heap.place s.collector s.history.mixed s.history.mixed heap z h.represents.generations
      (λ name address e. refl) (λ n m. m)
      (λ name address e. same_object s.history.mixed name (object_of heap address) (object_of z address) (object_of-rested heap address))
      (λ parent child a c at there is aged out. inl is) Idle 0 [] (λ rest e. cc) (λ e. absurd (cc)) (λ e. absurd (cc))

  ended_represents : Represents (compaction_ended v) (state_ended s)
  ended_represents = record {
    heap = record {
      objects = objects_ended;
      corpses = corpses_ended;
      left = left_ended;
      pages = pages_ended;
      progress = progress_ended;
      counted = counted_ended;
    };
    generations = generations_ended;
    colours = λ e. absurd (cc);
    roots = roots_ended s.heap.place heap z (none_moved-rested heap) v.roots s.roots h.represents.roots;
    stack = h.represents.stack;
    ids = ids_ended s.heap.place heap z (none_moved-rested heap) s.tables.ids v.ids h.represents.ids;
    weak = weak_ended s.heap.place heap z (none_moved-rested heap) s.tables.weak v.weak h.represents.weak;
    finals = h.represents.finals;
  }

pub compaction_ended_held : (v : View) (s : State) → Holds v s → s.collector.phase ≡ Fixing → HasNoVisit s → IsSoundHeap v.heap →
    Holds (compaction_ended v) (state_ended s)
compaction_ended_held v s h fixing none sound =
    record { represents = ended_represents v s h fixing none sound; sound = Sound-compaction_ended s fixing h.sound }
