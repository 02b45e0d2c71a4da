-- The scans from the start of a minor marking.
use Rattle.std.proofs.Common.{◌≡◌, ◌⊎◌, ⊎_elim, ℕ, ◌+◌, true, false, true≢false, List, [], ◌∷◌, ◌++◌, nat_eq, sym, ◌∙◌, arith}
use Rattle.std.specs.Set.{is_member}
use Rattle.std.proofs.lemmas.Bool.{cases_Bool, and_parts, false_from_ne_true}
use Rattle.space_heap.specs.declared.colour.Colour.TheVariants.{Black}
use Rattle.space_heap.specs.HeapView.{HeapView}
use Rattle.space_heap.specs.Objects.{is_object, object_of}
use Rattle.space_heap.specs.Marking.{colour_of}
use Rattle.space_heap.specs.planes.RecolouredMarks.{is_black}
use Rattle.space_heap.specs.Generations.{has_minor_scan, is_minor_scan, is_protected_at}
use Rattle.space_heap.specs.Walks.{HasNoMinorScanFrom, IsNextMinorScan}
use Rattle.space_tracing.specs.Scans.{read_object}
use Rattle.space_tracing.specs.Marking.{Marks}
use Rattle.space_tracing.specs.Rescans.{ScansBelow}
use Rattle.space_tracing.proofs.Same.{is_object-same, guard-same, age-same}
use Rattle.space_tracing.proofs.Rescanned.{Black-from_is_black, black-same, below_scan, below_all}
use Rattle.space_minor.specs.FirstScans.{IsHeld}

-- what a minor marking scans from its start is black
scan_black : (v : HeapView) (a : ℕ) → is_minor_scan v a ≡ true → colour_of v a ≡ Black
scan_black v a e = Black-from_is_black (colour_of v a)
    (and_parts (is_black (colour_of v a)) (has_minor_scan (object_of v a)) (and_parts (is_object v a) _ e).1).0

module _ (old v : HeapView) (words again : List ℕ) (a : ℕ) (m : Marks old v words again []) where
  -- a black object that is held is kept as it was
  kept-same : (colour_of old a ≡ Black → (is_protected_at old a ≡ true) ⊎ ((object_of old a).kept ≡ true)) → is_black (colour_of old a) ≡ true
      → (object_of v a).kept ≡ (object_of old a).kept
  kept-same h b = ⊎_elim
      (λ k. ⊎_elim
      (λ o. k ∙ sym o)
      (λ w. ⊎_elim (λ g. absurd (true≢false (sym g ∙ w.2.unprotected))) (λ o. k ∙ sym o) (h (Black-from_is_black (colour_of old a) b)))
      (m.notes.kept_only a k))
      (λ f. f ∙ sym (false_from_ne_true _ (λ o. true≢false (sym (m.notes.kept_before a o) ∙ f))))
      (cases_Bool (object_of v a).kept)

  -- what is listed stays so until it is scanned again
  scan-same : IsHeld old → is_member nat_eq again a ≡ false → is_minor_scan v a ≡ is_minor_scan old a
  scan-same h fresh =
      let r = m.notes.remembered_other a (λ r. absurd (true≢false (sym r ∙ grind (arith, fresh)))) in
      let kept = kept-same (h a) in
      grind (arith, black-same old v words again a m, r, kept, is_object-same old v a m.same, guard-same old v a m.same, age-same old v a m.same)

-- the next listed object was scanned again
pub first_scan : (old v : HeapView) (words again : List ℕ) (from a : ℕ) → IsHeld old → ScansBelow (is_minor_scan old) old v words again from
    → IsNextMinorScan v from a → ScansBelow (is_minor_scan old) old (read_object v a) words (again ++ a ∷ []) (a + 1)
first_scan old v words again from a h r next =
    below_scan (is_minor_scan old) (is_minor_scan v) old v words again from r (λ b. scan-same old v words again b r.marks h) a (scan_black old a) next

-- no listed object is left
pub first_all : (old v : HeapView) (words again : List ℕ) (from : ℕ) → IsHeld old → ScansBelow (is_minor_scan old) old v words again from
    → HasNoMinorScanFrom v from → (a : ℕ) → is_member nat_eq again a ≡ is_minor_scan old a
first_all old v words again from h r none =
    below_all (is_minor_scan old) (is_minor_scan v) old v words again from r (λ b. scan-same old v words again b r.marks h) none
