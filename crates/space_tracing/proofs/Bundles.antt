-- The steps of marking, with all that they keep, and how many there may be.
use Rattle.std.proofs.Common.{◌≡◌, ◌≢◌, ◌⊎◌, inl, inr, ℕ, ◌<◌, ◌≤◌, ◌+◌, true, false, List, [], ◌∷◌, ◌++◌, nat_eq, length, refl, sym, ◌∙◌, arith, subst, append_assoc}
use Rattle.std.specs.Set.{is_member}
use Rattle.std.proofs.lemmas.List.{length-append, append-nil}
use Rattle.std.proofs.lemmas.Bool.{false_from_ne_true, or_from}
use Rattle.space_heap.proofs.NumberLists.{is_member-push}
use Rattle.space_heap.specs.declared.colour.Colour.{Colour}
use Rattle.space_heap.specs.declared.colour.Colour.TheVariants.{White, Grey, Black}
use Rattle.space_heap.specs.HeapView.{HeapView}
use Rattle.space_heap.specs.Objects.{is_occupied}
use Rattle.space_heap.specs.Marking.{colour_of, HasAtMost}
use Rattle.space_heap.proofs.Coherence.{occupied_from_colour}
use Rattle.space_tracing.specs.Scans.{visited_all, read_object, scanned}
use Rattle.space_tracing.specs.Graph.{IsChild}
use Rattle.space_tracing.specs.Marking.{IsMarked, Marking, Marks, GoesOn}
use Rattle.space_tracing.proofs.Same.{SameGraph-refl, SameGraph-then}
use Rattle.space_tracing.proofs.Visits.{visits_all}
use Rattle.space_tracing.proofs.Scans.{scanned_first, scanned_again}
use Rattle.space_tracing.proofs.Noted.{notes_none, notes_words, notes_scan}
use Rattle.space_tracing.proofs.Steps.{marking_none, marking_words, marking_scan, marking_again}

pub marks_none : (v : HeapView) → Marks v v [] [] []
marks_none v = record { same = SameGraph-refl v; notes = notes_none v; marking = marking_none v }

pub marks_words : (old v : HeapView) (words more again done : List ℕ) → Marks old v words again done → Marks old (visited_all v more) (words ++ more) again done
marks_words old v words more again done p =
    let r = visits_all v more in
    record {
      same = SameGraph-then old v _ p.same r.same;
      notes = notes_words old v _ more again done p.notes r;
      marking = marking_words old v _ words more again done p.same p.marking r;
    }

pub marks_scan : (old v : HeapView) (words again done : List ℕ) (a : ℕ) → colour_of v a ≡ Grey → Marks old v words again done
    → Marks old (scanned v a) words again (done ++ a ∷ [])
marks_scan old v words again done a g p =
    let s = scanned_first v a g in
    let not_done : is_member nat_eq done a ≡ false = false_from_ne_true _ (λ m. let b = p.marking.done_black a m in cc) in
    let not_again : is_member nat_eq again a ≡ false = false_from_ne_true _ (λ m. let b = p.marking.black_kept a (p.marking.again_black a m) in cc) in
    record {
      same = SameGraph-then old v _ p.same s.same;
      notes = notes_scan old v _ again done again (done ++ a ∷ []) a p.same p.notes (or_from _ _ not_again not_done)
          (λ n. grind (arith, is_member-push done a n)) s;
      marking = marking_scan old v _ words again done a p.same p.marking g s;
    }

pub marks_again : (old v : HeapView) (words again done : List ℕ) (a : ℕ) → colour_of old a ≡ Black → is_member nat_eq again a ≡ false
    → Marks old v words again done → Marks old (read_object v a) words (again ++ a ∷ []) done
marks_again old v words again done a b fresh p =
    let s = scanned_again v a (p.marking.black_kept a b) in
    let not_done : is_member nat_eq done a ≡ false = false_from_ne_true _ (λ m. p.marking.done_new a m b) in
    record {
      same = SameGraph-then old v _ p.same s.same;
      notes = notes_scan old v _ again done (again ++ a ∷ []) done a p.same p.notes (or_from _ _ fresh not_done)
          (λ n. grind (arith, is_member-push again a n)) s;
      marking = marking_again old v _ words again done a p.same p.marking b fresh s;
    }

pub goes_on_none : (v : HeapView) → GoesOn v v 0
goes_on_none v = λ old words again done p. ([], subst (λ d. Marks old v words again d) (sym (append-nil done)) p, refl)

pub goes_on_scan : (now v : HeapView) (k a : ℕ) → colour_of v a ≡ Grey → GoesOn now v k → GoesOn now (scanned v a) (k + 1)
goes_on_scan now v k a g h = λ old words again done p.
    let t = h old words again done p in
    let q = marks_scan old v words again (done ++ t.0) a g t.1 in
    (t.0 ++ a ∷ [], subst (λ d. Marks old (scanned v a) words again d) (append_assoc done t.0 (a ∷ [])) q, omega (arith, length-append t.0 (a ∷ []), t.2))

-- what was scanned stands
done_occupied : (old v : HeapView) (words again done : List ℕ) → Marks old v words again done → (n : ℕ) → is_member nat_eq done n ≡ true
    → is_occupied v n ≡ true
done_occupied old v words again done p n m = occupied_from_colour v n (let b = p.marking.done_black n m in λ w. cc)

-- there are no more scans than objects
pub goes_on_most : (now v : HeapView) (k most : ℕ) → GoesOn now v k → HasAtMost v most → k ≤ most
goes_on_most now v k most h few =
    let t = h now [] [] [] (marks_none now) in
    subst (λ n. n ≤ most) t.2 (few t.0 t.1.marking.once (done_occupied now v [] [] t.0 t.1))

-- and fewer while one is grey
pub goes_on_fewer : (now v : HeapView) (k a most : ℕ) → GoesOn now v k → colour_of v a ≡ Grey → HasAtMost v most → k < most
goes_on_fewer now v k a most h g few =
    let t = h now [] [] [] (marks_none now) in
    let q = marks_scan now v [] [] t.0 a g t.1 in
    let s = scanned_first v a g in
    let more : length (t.0 ++ a ∷ []) ≤ most = few (t.0 ++ a ∷ []) q.marking.once
    (λ n m. sym (s.same.standing n) ∙ done_occupied now (scanned v a) [] [] (t.0 ++ a ∷ []) q n m) in
    omega (arith, length-append t.0 (a ∷ []), t.2)

pub colours : (c : Colour) → (c ≡ White) ⊎ ((c ≡ Grey) ⊎ (c ≡ Black))
colours White = inl refl
colours Grey = inr (inl refl)
colours Black = inr (inr refl)

-- With nothing grey the marked are closed, if what was black and wasn't scanned again has no white child.
pub closed_drained : (old new : HeapView) (words again done : List ℕ) → Marking old new words again done → ((n : ℕ) → colour_of new n ≢ Grey)
    → ((m n : ℕ) → colour_of old m ≡ Black → is_member nat_eq again m ≡ false → IsChild old m n → IsMarked new n) → (m n : ℕ) → IsMarked new m
    → IsChild old m n → IsMarked new n
closed_drained old new words again done p none before m n k c w =
    grind (arith, colours (colour_of new m), colours (colour_of old m), none m, k, p.black_done m, p.closed m n, before m n, c)
