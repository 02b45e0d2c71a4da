-- What a marking and its verdict leave as it was, and what they count.
use Rattle.std.proofs.Common.{◌≡◌, ◌≢◌, ℕ, true, List, [], ◌∷◌, length, refl, sym, ap, ◌∙◌, subst, ◌⊎◌, inl, inr}
use Rattle.std.specs.Prelude.{is_some}
use Rattle.std.proofs.lemmas.Bool.{and_parts}
use Rattle.space_model.specs.declared.event.Kind.{Kind}
use Rattle.space_model.specs.declared.phase.Phase.TheVariants.{Idle, Sweeping}
use Rattle.space_model.specs.Layout.{page_of}
use Rattle.space_heap.specs.Slots.{ObjectView}
use Rattle.space_heap.specs.HeapView.{Counters, HeapView, pool_at, is_unswept}
use Rattle.space_heap.specs.Objects.{HasNoMoved}
use Rattle.space_heap.specs.SoundHeap.{IsSoundHeap}
use Rattle.space_heap.specs.Sweeping.{phase_with, pooled_pages, minors_after, others_after, settled, HasNoGone}
use Rattle.space_heap.proofs.FreeLaws.{is_moved-settled}
use Rattle.space_heap.proofs.SettledLaws.{colour_of-settled, grey-settled, pool_at-settled, is_unswept-settled, unswept-settled, phase-settled, counters-settled, count-settled, limit-settled}
use Rattle.space_heap.proofs.SweptPages.{occupied_pooled}
use Rattle.space_tracing.specs.Graph.{SameGraph}
use Rattle.space_collector.specs.HeapVerdicts.{IsHeapVerdict}
use Rattle.space_collector.specs.Quiescent.{HasNoGrey, IsQuiescent}

-- after a verdict each page with a pool waits
all_wait-settled : (v : HeapView) (kind : Kind) (page : ℕ) → is_some (pool_at (settled v kind) page) ≡ true → is_unswept (settled v kind) page ≡ true
all_wait-settled v kind page e = is_unswept-settled v kind page ∙ ap is_some (sym (pool_at-settled v kind page)) ∙ e

-- nothing becomes grey by a verdict
grey_none-settled : (v : HeapView) (kind : Kind) → HasNoGrey v → HasNoGrey (settled v kind)
grey_none-settled v kind none =
    record { listed = grey-settled v kind ∙ none.listed; objects = λ a grey. none.objects a (sym (colour_of-settled v kind a) ∙ grey) }

-- a marking leaves none gone where none was
pub none_gone_marked : (old marked : HeapView) → SameGraph old marked → HasNoGone old → HasNoGone marked
none_gone_marked old marked same none a e =
    ap (λ (o : ObjectView). o.gone) (same.objects a) ∙ none a (sym (same.standing a) ∙ e)

none_wait : (pages : List ℕ) → phase_with pages ≢ Sweeping → pages ≡ []
none_wait [] other = refl
none_wait (page ∷ pages) other = absurd (other refl)

some_wait : (pages : List ℕ) → phase_with pages ≡ Sweeping → pages ≢ []
some_wait [] e none = cc
some_wait (page ∷ pages) e none = cc

-- what is left to do after a verdict shows in the phase
pub quiescent-settled : (v : HeapView) (kind : Kind) → IsSoundHeap (settled v kind) → HasNoMoved v → HasNoGrey v → IsQuiescent (settled v kind)
quiescent-settled v kind sound still none = record {
  gone_wait = λ a e. all_wait-settled v kind (page_of a) (occupied_pooled (settled v kind) a sound (and_parts _ _ e).0);
  none_waits = λ other. unswept-settled v kind ∙ none_wait _ (λ e. other (phase-settled v kind ∙ e));
  some_wait = λ at empty. some_wait _ (sym (phase-settled v kind) ∙ at) (sym (unswept-settled v kind) ∙ empty);
  none_moved = λ moving fixing a. is_moved-settled v kind a ∙ still a;
  none_grey = λ marking. grey_none-settled v kind none;
}

phase_is : (pages : List ℕ) → (phase_with pages ≡ Idle) ⊎ (phase_with pages ≡ Sweeping)
phase_is [] = inl refl
phase_is (page ∷ pages) = inr refl

module _ (old new : HeapView) (kind : Kind) (roots stack : List ℕ) (scans : ℕ) (h : IsHeapVerdict old new kind roots stack scans) where
  -- the counters with one more verdict of the kind
  abbrev pub counted_after : Counters → Counters
  counted_after c = record c { minor_verdicts = minors_after kind c.minor_verdicts; other_verdicts = others_after kind c.other_verdicts }

  -- the verdict is counted, and nothing else is
  pub counters-verdict : new.counters ≡ counted_after old.counters
  counters-verdict =
      ap (λ (w : HeapView). w.counters) h.settles
      ∙ counters-settled h.marked kind
      ∙ ap counted_after h.marking.same.counters

  pub count-verdict : length new.pages ≡ length old.pages
  count-verdict = ap (λ (w : HeapView). length w.pages) h.settles ∙ count-settled h.marked kind ∙ h.marking.same.count

  pub limit-verdict : new.limit ≡ old.limit
  limit-verdict = ap (λ (w : HeapView). w.limit) h.settles ∙ limit-settled h.marked kind ∙ h.marking.same.limit

  -- pages wait after it, or nothing is under way
  pub phase-verdict : (new.phase ≡ Idle) ⊎ (new.phase ≡ Sweeping)
  phase-verdict = subst (λ (w : HeapView). (w.phase ≡ Idle) ⊎ (w.phase ≡ Sweeping)) (sym h.settles)
      (subst (λ phase. (phase ≡ Idle) ⊎ (phase ≡ Sweeping)) (sym (phase-settled h.marked kind)) (phase_is (pooled_pages h.marked)))
