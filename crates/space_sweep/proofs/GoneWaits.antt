-- Gone objects wait for a sweep, for the callers: so where no page waits none is gone.
use Rattle.std.proofs.Common.{◌≡◌, ⊎_elim, ℕ, true, false, true≢false, not, ◌&&◌, [], nat_eq, refl, sym, ap, ◌∙◌, subst, arith}
use Rattle.std.specs.Set.{is_member}
use Rattle.std.proofs.lemmas.Bool.{and_parts, cases_Bool, cases_eq}
use Rattle.std.proofs.lemmas.Bool.Decides.{nat_tests}
use Rattle.space_model.specs.declared.event.Kind.{Kind}
use Rattle.space_model.specs.declared.phase.Phase.{Phase}
use Rattle.space_model.specs.Layout.{page_of}
use Rattle.space_heap.specs.HeapView.{HeapView, is_unswept}
use Rattle.space_heap.specs.Objects.{object_of}
use Rattle.space_heap.specs.SoundHeap.{IsSoundHeap}
use Rattle.space_heap.specs.Sweeping.{is_gone, settled, swept, HasNoGone}
use Rattle.space_heap.proofs.PhaseLaws.{is_occupied-in_phase, object_of-in_phase}
use Rattle.space_heap.proofs.SweptPages.{occupied_pooled}
use Rattle.space_heap.proofs.SettledLaws.{is_occupied-settled, is_unswept-settled}
use Rattle.space_heap.proofs.SweptLaws.{is_gone-swept_same, is_gone-swept_other, is_unswept-swept}
use Rattle.space_sweep.specs.Sweeps.{SweepsFirst}

-- each gone object is on a page that waits for a sweep
abbrev pub GoneWait : HeapView → Type 0
GoneWait v = (a : ℕ) → is_gone v a ≡ true → is_unswept v (page_of a) ≡ true

pub gone_wait-settled : (v : HeapView) (kind : Kind) → IsSoundHeap v → GoneWait (settled v kind)
gone_wait-settled v kind sound a g = is_unswept-settled v kind (page_of a)
    ∙ occupied_pooled v a sound (sym (is_occupied-settled v kind a) ∙ (and_parts _ _ g).0)

pub gone_wait-swept : (v : HeapView) (page : ℕ) → GoneWait v → GoneWait (swept v page)
gone_wait-swept v page wait a g = ⊎_elim
    (λ same. absurd (true≢false (sym g ∙ is_gone-swept_same v page a same)))
    (λ differ.
    let apart : nat_eq (page_of a) page ≡ false = grind (arith, nat_tests) in
    is_unswept-swept v page (page_of a)
    ∙ ap (λ b. b && not (nat_eq (page_of a) page)) (wait a (sym (is_gone-swept_other v page a differ) ∙ g))
    ∙ ap not apart)
    (cases_eq (page_of a) page)

same_phase : (v : HeapView) (phase : Phase) (a : ℕ) → is_gone (record v { phase = phase }) a ≡ is_gone v a
same_phase v phase a = rw (is_occupied-in_phase v phase a, object_of-in_phase v phase a) refl

-- after the sweep of the first page that waits
pub gone_wait-first : (v w : HeapView) (freed : ℕ) → SweepsFirst v w freed → GoneWait v → GoneWait w
gone_wait-first v w freed s wait =
    let u : HeapView = swept v s.page in
    subst GoneWait (sym s.after) (λ a g. gone_wait-swept v s.page wait a (sym (same_phase u _ a) ∙ g))

-- where the same are gone and the same pages wait
pub gone_wait-same : (v w : HeapView) → ((a : ℕ) → is_gone w a ≡ is_gone v a) → w.unswept ≡ v.unswept → GoneWait v → GoneWait w
gone_wait-same v w gone unswept wait a g = ap (λ xs. is_member nat_eq xs (page_of a)) unswept ∙ wait a (sym (gone a) ∙ g)

-- where no page waits none is gone
pub none_gone_waiting : (v : HeapView) → GoneWait v → v.unswept ≡ [] → HasNoGone v
none_gone_waiting v wait none a e = ⊎_elim
    (λ g. absurd (true≢false (sym (wait a (ap (λ b. b && (object_of v a).gone) e ∙ g)) ∙ ap (λ xs. is_member nat_eq xs (page_of a)) none)))
    (λ f. f)
    (cases_Bool (object_of v a).gone)
