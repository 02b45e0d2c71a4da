-- Object ids and weak maps that are purged by one heap after another, and the parts of a space after a completion.
use Rattle.std.proofs.Common.{◌≡◌, ◌≢◌, ◌&&◌, ℕ, zero, suc, Bool, true, false, List, [], ◌∷◌, filter, if◌then◌else◌, refl, sym, ap, ◌∙◌, Option, None, Some, ⊎_elim}
use Rattle.std.proofs.lemmas.Bool.{cases_Bool, and_parts, and_from, false_from_ne_true, false≢true}
use Rattle.std.proofs.lemmas.List.Elements.{filter_agree}
use Rattle.space_model.specs.declared.event.Kind.{Kind}
use Rattle.space_model.specs.declared.event.Kind.TheVariants.{Full}
use Rattle.space_model.specs.declared.phase.Phase.{Phase}
use Rattle.space_model.specs.declared.phase.Phase.TheVariants.{Idle, Marking, Sweeping, Moving, Fixing}
use Rattle.space_finals.specs.FinalLists.{FinalLists}
use Rattle.space_heap.specs.HeapView.{HeapView}
use Rattle.space_heap.specs.Objects.{is_occupied, is_object, resolved}
use Rattle.space_heap.specs.Sweeping.{settled, HasNoGone}
use Rattle.space_heap.proofs.SettledLaws.{none_gone, is_object-settled, resolved-settled}
use Rattle.space_barrier.specs.Barrier.{is_marking}
use Rattle.space_collector.specs.HeapVerdicts.{IsHeapVerdict}
use Rattle.space_collector.specs.PagesSwept.{SweepsPages, SweepsAll}
use Rattle.space_collector.proofs.PageSweeps.{is_object-first, resolved-first}
use Rattle.space_ids.specs.GivenIds.{GivenIds, still_kept, purged as purged_ids}
use Rattle.space_weak.specs.WeakEntries.{Entry, is_live, purged as purged_entries}
use Rattle.space_engine.specs.Views.{View, with_finals, with_swept, without_starts, with_judged, with_completed}

-- heaps in which the same is live purge alike
module _ (old new : HeapView) (alike : (word : ℕ) → is_live new word ≡ is_live old word) where
  kept_alike : (kept : Option ℕ) → still_kept new kept ≡ still_kept old kept
  kept_alike None = refl
  kept_alike (Some address) = ap (λ b. if b then Some address else None) (alike address)

  ids_alike : (ids : GivenIds) → purged_ids new ids ≡ purged_ids old ids
  ids_alike [] = refl
  ids_alike (entry ∷ ids) = λ i. (entry.0, kept_alike entry.1 i) ∷ ids_alike ids i

  entries_alike : (entries : List Entry) → purged_entries new entries ≡ purged_entries old entries
  entries_alike entries = filter_agree
      (λ entry. is_live new entry.key_address && is_live new entry.value_address)
      (λ entry. is_live old entry.key_address && is_live old entry.value_address)
      (λ entry. λ i. alike entry.key_address i && alike entry.value_address i)
      entries

-- what passes a second test passed the first
filter_again : {X : Type 0} (first second : X → Bool) → ((x : X) → second x ≡ true → first x ≡ true) → (xs : List X) →
    filter second (filter first xs) ≡ filter second xs
filter_again first second so [] = refl
filter_again first second so (x ∷ xs) =
    let rest = filter_again first second so xs in
    ⊎_elim
    (λ (t : first x ≡ true). rw t (ap (λ rest. if second x then x ∷ rest else rest) rest))
    (λ (f : first x ≡ false).
    let fails : second x ≡ false = false_from_ne_true _ (λ t. false≢true (sym f ∙ so x t)) in
    rw (f, fails) rest)
    (cases_Bool (first x))

-- where no more is live later, it is enough to purge then
module _ (old new : HeapView) (fewer : (word : ℕ) → is_live new word ≡ true → is_live old word ≡ true) where
  kept_again : (kept : Option ℕ) → still_kept new (still_kept old kept) ≡ still_kept new kept
  kept_again None = refl
  kept_again (Some address) = ⊎_elim
      (λ (t : is_live old address ≡ true). rw t refl)
      (λ (f : is_live old address ≡ false).
      let gone : is_live new address ≡ false = false_from_ne_true _ (λ t. false≢true (sym f ∙ fewer address t)) in
      rw (f, gone) refl)
      (cases_Bool (is_live old address))

  ids_again : (ids : GivenIds) → purged_ids new (purged_ids old ids) ≡ purged_ids new ids
  ids_again [] = refl
  ids_again (entry ∷ ids) = λ i. (entry.0, kept_again entry.1 i) ∷ ids_again ids i

  entries_again : (entries : List Entry) → purged_entries new (purged_entries old entries) ≡ purged_entries new entries
  entries_again entries = filter_again
      (λ entry. is_live old entry.key_address && is_live old entry.value_address)
      (λ entry. is_live new entry.key_address && is_live new entry.value_address)
      (λ entry t. let both = and_parts _ _ t in and_from _ _ (fewer entry.key_address both.0) (fewer entry.value_address both.1))
      entries

-- over sweeps the same stays live
live_swept : (pages : ℕ) (old : HeapView) (f : FinalLists) (new : HeapView) (g : FinalLists) → SweepsPages pages old f new g → (word : ℕ) →
    is_live new word ≡ is_live old word
live_swept zero old f new g (same, none) word = ap (λ heap. is_live heap word) same
live_swept (suc pages) old f new g (mid, between, first, others) word =
    live_swept pages mid between new g others word
    ∙ is_object-first old mid first.freed first.sweeps (resolved mid word)
    ∙ ap (is_object old) (resolved-first old mid first.freed first.sweeps word)

-- a verdict makes nothing live
live_judged : (old new : HeapView) (kind : Kind) (roots stack : List ℕ) (scans : ℕ) → HasNoGone old → IsHeapVerdict old new kind roots stack scans →
    (word : ℕ) → is_live new word ≡ true → is_live old word ≡ true
live_judged old new kind roots stack scans clean c word lives =
    let a : ℕ = resolved old word in
    let last : HeapView = settled c.marked kind in
    let there : is_live last word ≡ true = ap (λ heap. is_live heap word) (sym c.settles) ∙ lives in
    let leads : resolved last word ≡ a = resolved-settled c.marked kind word ∙ c.marking.same.moves word in
    let stands = and_parts (is_occupied c.marked a) _ (sym (is_object-settled c.marked kind a) ∙ ap (is_object last) (sym leads) ∙ there) in
    sym (c.marking.same.standing a ∙ none_gone old a clean) ∙ stands.0

-- a verdict left the heap `judged`, and then every page was swept: it is as if all had been purged by the heap after the sweeps
pub judged_swept : (v : View) (judged : HeapView) (f : FinalLists) (idle : HeapView) (g : FinalLists) → SweepsAll judged f idle g →
    with_swept (with_judged v judged) idle g ≡ with_finals (with_judged v idle) g
judged_swept v judged f idle g sweeps =
    let alike = live_swept _ judged f idle g sweeps in
    let ids = ids_alike judged idle alike v.ids in
    let weak = entries_alike judged idle alike v.weak in
    sym (λ i. record { heap = idle; roots = v.roots; stack = v.stack; ids = ids i; weak = weak i; finals = g })

-- the space after what was under way was completed, part by part
abbrev pub completed_view : View → HeapView → FinalLists → View
completed_view v heap finals = record {
  heap = heap;
  roots = v.roots;
  stack = v.stack;
  ids = if is_marking v.heap.phase then purged_ids heap v.ids else v.ids;
  weak = if is_marking v.heap.phase then purged_entries heap v.weak else v.weak;
  finals = finals;
}

pub completed_is : (v : View) (heap : HeapView) (finals : FinalLists) → with_completed v heap finals ≡ completed_view v heap finals
completed_is v heap finals = by_test (is_marking v.heap.phase)
  where
    by_test : (test : Bool) → (if test then with_finals (with_judged v heap) finals else with_swept v heap finals) ≡ record {
      heap = heap;
      roots = v.roots;
      stack = v.stack;
      ids = if test then purged_ids heap v.ids else v.ids;
      weak = if test then purged_entries heap v.weak else v.weak;
      finals = finals;
    }
    by_test true = refl
    by_test false = refl

-- what a completion is said to leave, part by part
pub completed_as : (old new : View) → new ≡ with_completed old new.heap new.finals → new ≡ completed_view old new.heap new.finals
completed_as old new rest = rest ∙ completed_is old new.heap new.finals

-- what is purged by a heap is of the view that was there
pub judged_as : (before mid new : View) (heap : HeapView) → before ≡ mid → new ≡ with_judged before heap → new ≡ with_judged mid heap
judged_as before mid new heap same judged = judged ∙ ap (λ (v : View). with_judged v heap) same

no_marking : (phase : Phase) → phase ≢ Marking → is_marking phase ≡ false
no_marking Idle other = refl
no_marking Marking other = absurd (other refl)
no_marking Sweeping other = refl
no_marking Moving other = refl
no_marking Fixing other = refl

-- outside a marking nothing was purged
pub completed_unmarked : (v : View) (idle : HeapView) (g : FinalLists) → v.heap.phase ≢ Marking → completed_view v idle g ≡ with_swept v idle g
completed_unmarked v idle g other = rw (no_marking v.heap.phase other) refl

-- in a marking a verdict left the heap `judged`, and then every page was swept
pub completed_marking : (v : View) (judged idle : HeapView) (g : FinalLists) → v.heap.phase ≡ Marking → SweepsAll judged v.finals idle g →
    completed_view v idle g ≡ with_swept (with_judged v judged) idle g
completed_marking v judged idle g marking sweeps =
    let alike = live_swept _ judged v.finals idle g sweeps in
    let ids = ids_alike judged idle alike v.ids in
    let weak = entries_alike judged idle alike v.weak in
    rw marking (λ i. record { heap = idle; roots = v.roots; stack = v.stack; ids = ids i; weak = weak i; finals = g })

-- a verdict after a completion purges what that left
pub judged_completed : (v : View) (idle : HeapView) (g : FinalLists) (new : HeapView) (kind : Kind) (roots stack : List ℕ) (scans : ℕ) →
    HasNoGone idle → IsHeapVerdict idle new kind roots stack scans →
    with_judged (completed_view v idle g) new ≡ with_finals (with_judged v new) g
judged_completed v idle g new kind roots stack scans clean c =
    let ids = ids_by (is_marking v.heap.phase) in
    let weak = weak_by (is_marking v.heap.phase) in
    λ i. record { heap = new; roots = v.roots; stack = v.stack; ids = ids i; weak = weak i; finals = g }
  where
    fewer : (word : ℕ) → is_live new word ≡ true → is_live idle word ≡ true
    fewer = live_judged idle new kind roots stack scans clean c

    ids_by : (test : Bool) → purged_ids new (if test then purged_ids idle v.ids else v.ids) ≡ purged_ids new v.ids
    ids_by true = ids_again idle new fewer v.ids
    ids_by false = refl

    weak_by : (test : Bool) → purged_entries new (if test then purged_entries idle v.weak else v.weak) ≡ purged_entries new v.weak
    weak_by true = entries_again idle new fewer v.weak
    weak_by false = refl

-- so a completion and a collection leave what its verdict alone would
pub collected_rest : (old mid new : View) (heap : HeapView) (kind : Kind) (roots stack : List ℕ) (scans : ℕ) →
    mid ≡ completed_view old mid.heap mid.finals → HasNoGone mid.heap → IsHeapVerdict mid.heap heap kind roots stack scans →
    new ≡ with_judged mid heap → new ≡ with_finals (with_judged old new.heap) new.finals
collected_rest old mid new heap kind roots stack scans rest clean c purged =
    let last : heap ≡ new.heap = sym (ap (λ (v : View). v.heap) purged) in
    let queued : mid.finals ≡ new.finals = sym (ap (λ (v : View). v.finals) purged) in
    purged
    ∙ ap (λ (v : View). with_judged v heap) rest
    ∙ judged_completed old mid.heap mid.finals heap kind roots stack scans clean c
    ∙ (λ i. with_finals (with_judged old (last i)) (queued i))

-- after that and without roots and stack words, a whole verdict and the sweeps of all pages leave what that verdict alone would
pub exited_rest : (old mid new : View) (judged : HeapView) (scans : ℕ) → mid ≡ completed_view old mid.heap mid.finals → HasNoGone mid.heap →
    IsHeapVerdict mid.heap judged Full [] [] scans → SweepsAll judged mid.finals new.heap new.finals →
    new ≡ with_swept (with_judged (without_starts mid) judged) new.heap new.finals →
    new ≡ with_finals (with_judged (without_starts old) new.heap) new.finals
exited_rest old mid new judged scans rest clean c sweeps swept =
    swept
    ∙ ap (λ (v : View). with_swept (with_judged (without_starts v) judged) new.heap new.finals) rest
    ∙ ap (λ (v : View). with_swept v new.heap new.finals)
    (judged_completed (without_starts old) mid.heap mid.finals judged Full [] [] scans clean c)
    ∙ judged_swept (without_starts old) judged mid.finals new.heap new.finals sweeps
