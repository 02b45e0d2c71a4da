-- The scans of black unprotected objects, again.
use Rattle.std.proofs.Common.{◌≡◌, ℕ, ◌+◌, true, not, List, [], ◌∷◌, ◌++◌, nat_eq, arith}
use Rattle.std.specs.Set.{is_member}
use Rattle.std.proofs.lemmas.Bool.{and_parts}
use Rattle.space_heap.specs.declared.colour.Colour.TheVariants.{Black}
use Rattle.space_heap.specs.HeapView.{HeapView}
use Rattle.space_heap.specs.Objects.{is_object}
use Rattle.space_heap.specs.Marking.{colour_of}
use Rattle.space_heap.specs.planes.RecolouredMarks.{is_black}
use Rattle.space_heap.specs.Generations.{is_protected_at, is_finish_scan}
use Rattle.space_heap.specs.Walks.{HasNoFinishScanFrom, IsNextFinishScan}
use Rattle.space_tracing.specs.Scans.{read_object}
use Rattle.space_tracing.specs.Marking.{Marks}
use Rattle.space_tracing.specs.Rescans.{ScansBelow}
use Rattle.space_tracing.proofs.Same.{is_object-same, guard-same}
use Rattle.space_tracing.proofs.Rescanned.{Black-from_is_black, black-same, below_scan, below_all}

-- what is scanned again is black
scan_black : (v : HeapView) (a : ℕ) → is_finish_scan v a ≡ true → colour_of v a ≡ Black
scan_black v a e = Black-from_is_black (colour_of v a)
    (and_parts (is_black (colour_of v a)) (not (is_protected_at v a)) (and_parts (is_object v a) _ e).1).0

-- what is listed stays so
scan-same : (old v : HeapView) (words again : List ℕ) (a : ℕ) → Marks old v words again [] → is_finish_scan v a ≡ is_finish_scan old a
scan-same old v words again a m =
    grind (arith, black-same old v words again a m, is_object-same old v a m.same, guard-same old v a m.same)

-- the next listed object was scanned again
pub unprotected_scan : (old v : HeapView) (words again : List ℕ) (from a : ℕ) → ScansBelow (is_finish_scan old) old v words again from
    → IsNextFinishScan v from a → ScansBelow (is_finish_scan old) old (read_object v a) words (again ++ a ∷ []) (a + 1)
unprotected_scan old v words again from a r next =
    below_scan (is_finish_scan old) (is_finish_scan v) old v words again from r (λ b fresh. scan-same old v words again b r.marks) a (scan_black old a) next

-- no listed object is left
pub unprotected_all : (old v : HeapView) (words again : List ℕ) (from : ℕ) → ScansBelow (is_finish_scan old) old v words again from
    → HasNoFinishScanFrom v from → (a : ℕ) → is_member nat_eq again a ≡ is_finish_scan old a
unprotected_all old v words again from r none =
    below_all (is_finish_scan old) (is_finish_scan v) old v words again from r (λ b fresh. scan-same old v words again b r.marks) none
