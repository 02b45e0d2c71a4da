-- What the end of a major marking comes to.
use Rattle.std.proofs.Common.{◌≡◌, ◌≢◌, ◌↔◌, ◌⊎◌, inl, inr, ⊎_elim, ℕ, ◌+◌, true, false, true≢false, not, List, ◌++◌, length, nat_eq, refl, sym, ap, ◌∙◌}
use Rattle.std.specs.Set.{is_member}
use Rattle.std.proofs.lemmas.Bool.{or_cases, or_left, or_right, and_from, cases_Bool}
use Rattle.space_model.proofs.Reaching.{IsReached-mono, IsReached-start}
use Rattle.space_heap.specs.declared.colour.Colour.TheVariants.{Grey, Black}
use Rattle.space_heap.specs.HeapView.{HeapView}
use Rattle.space_heap.specs.Objects.{is_object}
use Rattle.space_heap.specs.Marking.{colour_of}
use Rattle.space_heap.specs.planes.RecolouredMarks.{is_black}
use Rattle.space_heap.specs.Generations.{is_protected_at, is_finish_scan}
use Rattle.space_heap.specs.Sweeping.{HasNoGone}
use Rattle.space_heap.proofs.SettledLaws.{none_gone}
use Rattle.space_heap.proofs.Coherence.{occupied_from_colour}
use Rattle.space_tracing.specs.Graph.{IsChild, IsStart}
use Rattle.space_tracing.specs.Marking.{IsMarked, Marking, Notes, IsNoted, CountsAre, is_read}
use Rattle.space_tracing.proofs.Steps.{From}
use Rattle.space_tracing.proofs.Bundles.{colours}
use Rattle.space_tracing.proofs.Ends.{marked_exactly}
use Rattle.space_tracing.proofs.Noted.{noted_by}
use Rattle.space_tracing.proofs.Rescanned.{is_black-at, start_split, start_join}
use Rattle.space_major.specs.Incremental.{IsTricolour, IsMarkedAtEnd, IsFinishScan, IsNewlyBlack, IsFinishScanned}

-- a black unprotected object is scanned again, where none is gone
listed_from : (v : HeapView) (n : ℕ) → HasNoGone v → colour_of v n ≡ Black → is_protected_at v n ≡ false → is_finish_scan v n ≡ true
listed_from v n clean b bare =
    let object : is_object v n ≡ true = sym (none_gone v n clean) ∙ occupied_from_colour v n (λ w. cc) in
    and_from (is_object v n) _ object (and_from (is_black (colour_of v n)) (not (is_protected_at v n)) (is_black-at (colour_of v n) b) (ap not bare))

module _ (old new : HeapView) (roots stack again done : List ℕ) (p : Marking old new (roots ++ stack) again done) (none : (n : ℕ) → colour_of new n ≢ Grey)
    (each : (a : ℕ) → is_member nat_eq again a ≡ is_finish_scan old a) where
  abbrev Start : ℕ → Type 0
  Start a = IsMarked old a ⊎ IsStart old roots stack a

  again_is : (n : ℕ) → (is_member nat_eq again n ≡ true) ↔ IsFinishScan old n
  again_is n = ((λ m. sym (each n) ∙ m), (λ h. each n ∙ h))

  -- what was scanned for the first time
  done_is : (n : ℕ) → (is_member nat_eq done n ≡ true) ↔ IsNewlyBlack old new n
  done_is n = (
    (λ d. let b = p.done_black n d in ((λ w. cc), p.done_new n d)),
    (λ h. ⊎_elim
        (λ w. absurd (h.0 w))
        (λ q. ⊎_elim (λ g. absurd (none n g)) (λ b. p.black_done n b h.1) q)
        (colours (colour_of new n))),
  )

  pub counts : (k : ℕ) → length again + length done ≡ k → CountsAre (IsFinishScan old) (IsNewlyBlack old new) k
  counts k e = record {
    first = length again;
    second = length done;
    have_first = record { names = again; once = p.again_once; are = again_is; long = refl };
    have_second = record { names = done; once = p.once; are = done_is; long = refl };
    sum = e;
  }

  pub noted : Notes old new again done → IsNoted old new (IsFinishScanned old new)
  noted h = noted_by old new (λ n. is_read again done n ≡ true) (IsFinishScanned old new)
      (λ n r. ⊎_elim (λ a. inl ((again_is n).0 a)) (λ d. inr ((done_is n).0 d)) (or_cases _ _ r))
      (λ n q. ⊎_elim (λ l. or_left _ _ ((again_is n).1 l)) (λ d. or_right _ _ ((done_is n).1 d)) q) h

  module _ (clean : HasNoGone old) (tri : IsTricolour old) where
    -- a black object that isn't scanned again is protected, and has no white child
    before : (m n : ℕ) → colour_of old m ≡ Black → is_member nat_eq again m ≡ false → IsChild old m n → IsMarked new n
    before m n b fresh c = ⊎_elim
        (λ held. p.kept n (tri m n b held c))
        (λ bare. absurd (true≢false (sym (each m ∙ listed_from old m clean b bare) ∙ fresh)))
        (cases_Bool (is_protected_at old m))

    pub marked : (n : ℕ) → IsMarked new n ↔ IsMarkedAtEnd old roots stack n
    marked n =
        let e = marked_exactly old new (roots ++ stack) again done p none before n in (
          (λ m. IsReached-mono (IsChild old) (IsChild old) (From old (roots ++ stack)) Start (λ x y c. c)
              (λ x f. IsReached-start (IsChild old) Start x (⊎_elim (λ k. inl k) (λ k. inr (start_split old roots stack x k)) f)) n (e.0 m)),
          (λ r. e.1 (IsReached-mono (IsChild old) (IsChild old) Start (From old (roots ++ stack)) (λ x y c. c)
              (λ x f. IsReached-start (IsChild old) (From old (roots ++ stack)) x (⊎_elim (λ k. inl k) (λ k. inr (start_join old roots stack x k)) f)) n r)),
        )
