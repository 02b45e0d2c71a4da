-- What a minor marking comes to.
use Rattle.std.proofs.Common.{◌≡◌, ◌≢◌, ◌↔◌, ◌⊎◌, inl, inr, ⊎_elim, ℕ, ◌+◌, true, true≢false, ◌||◌, List, ◌++◌, length, nat_eq, refl, sym, ap, ◌∙◌}
use Rattle.std.specs.Set.{is_member}
use Rattle.std.proofs.lemmas.Bool.{or_cases, or_left, or_right, and_parts, and_from, cases_Bool, cond-true, cond-false, true_from_ne_false}
use Rattle.space_model.specs.Reach.{IsReached}
use Rattle.space_model.specs.Ages.{is_protected_guard}
use Rattle.space_model.proofs.Reaching.{IsReached-start, IsReached-mono, IsReached-least, IsReached-closed}
use Rattle.space_heap.specs.declared.colour.Colour.TheVariants.{White, Grey, Black}
use Rattle.space_heap.specs.Slots.{ObjectView}
use Rattle.space_heap.specs.HeapView.{HeapView}
use Rattle.space_heap.specs.Objects.{is_object, object_of}
use Rattle.space_heap.specs.Marking.{colour_of}
use Rattle.space_heap.specs.Generations.{is_old, has_minor_scan, is_minor_scan, old_marked}
use Rattle.space_heap.specs.Sweeping.{HasNoGone}
use Rattle.space_heap.proofs.SettledLaws.{none_gone}
use Rattle.space_heap.proofs.Coherence.{object_of_none}
use Rattle.space_heap.proofs.GenerationLaws.{is_object-old_marked, object_of-old_marked, colour_of-old_marked}
use Rattle.space_tracing.specs.Graph.{IsChild, IsStart}
use Rattle.space_tracing.specs.Marking.{IsMarked, Marking, Notes, IsNoted, CountsAre, is_read}
use Rattle.space_tracing.proofs.Same.{SameGraph-old_marked, is_child-same}
use Rattle.space_tracing.proofs.Steps.{From}
use Rattle.space_tracing.proofs.Bundles.{colours}
use Rattle.space_tracing.proofs.Ends.{marked_exactly}
use Rattle.space_tracing.proofs.Noted.{noted_by}
use Rattle.space_tracing.proofs.Rescanned.{is_black-at, start_split, start_join}
use Rattle.space_minor.specs.Minors.{IsOldOrKept, IsGenerational, IsMinorScan, IsSpared, IsNewlyMarked, IsMinorScanned}
use Rattle.space_minor.specs.FirstScans.{IsHeld}

black_by : (v : HeapView) (a : ℕ) → IsOldOrKept v a → colour_of (old_marked v) a ≡ Black
black_by v a h = colour_of-old_marked v a
    ∙ cond-true (is_old (object_of v a) || (object_of v a).kept) Black White (⊎_elim (λ o. or_left _ _ o) (λ k. or_right _ _ k) h)

old_or_kept_from : (v : HeapView) (a : ℕ) → IsMarked (old_marked v) a → IsOldOrKept v a
old_or_kept_from v a m = ⊎_elim
    (λ t. or_cases _ _ t)
    (λ f. absurd (m (colour_of-old_marked v a ∙ cond-false (is_old (object_of v a) || (object_of v a).kept) Black White f)))
    (cases_Bool (is_old (object_of v a) || (object_of v a).kept))

pub held_old_marked : (v : HeapView) → IsHeld (old_marked v)
held_old_marked v a b =
    let same = object_of-old_marked v a in
    ⊎_elim
    (λ o. inl (ap (λ (o : ObjectView). is_protected_guard o.guard) same ∙ (and_parts _ _ o).0))
    (λ k. inr (ap (λ (o : ObjectView). o.kept) same ∙ k))
    (old_or_kept_from v a (λ w. cc))

scan-old_marked : (v : HeapView) (n : ℕ) → has_minor_scan (object_of (old_marked v) n) ≡ has_minor_scan (object_of v n)
scan-old_marked v n = ap has_minor_scan (object_of-old_marked v n)

-- what is scanned from the start is an object, where none is gone
object_from_scan : (v : HeapView) (n : ℕ) → HasNoGone v → IsMinorScan v n → is_object v n ≡ true
object_from_scan v n none r = sym (none_gone v n none)
    ∙ true_from_ne_false _ (λ f. true≢false (sym r ∙ ap has_minor_scan (object_of_none v n f)))

reasons : (v : HeapView) (n : ℕ) → IsMinorScan v n → IsOldOrKept v n
reasons v n r = ⊎_elim (λ l. inl (and_parts (is_old (object_of v n)) _ l).0) (λ k. inr k) (or_cases _ _ r)

-- what a minor marking scans again
listed : (v : HeapView) → HasNoGone v → (n : ℕ) → (is_minor_scan (old_marked v) n ≡ true) ↔ IsMinorScan v n
listed v none n = (
  (λ e. sym (scan-old_marked v n) ∙ (and_parts _ _ (and_parts (is_object (old_marked v) n) _ e).1).1),
  (λ r. and_from _ _ (is_object-old_marked v n ∙ object_from_scan v n none r)
      (and_from _ _ (is_black-at (colour_of (old_marked v) n) (black_by v n (reasons v n r))) (scan-old_marked v n ∙ r))),
)

module _ (old new : HeapView) (roots stack again done : List ℕ) (clean : HasNoGone old)
    (p : Marking (old_marked old) new (roots ++ stack) again done) (none : (n : ℕ) → colour_of new n ≢ Grey)
    (each : (a : ℕ) → is_member nat_eq again a ≡ is_minor_scan (old_marked old) a) where
  abbrev s : HeapView
  s = old_marked old

  again_is : (n : ℕ) → (is_member nat_eq again n ≡ true) ↔ IsMinorScan old n
  again_is n = let l = listed old clean n in ((λ m. l.0 (sym (each n) ∙ m)), (λ h. each n ∙ l.1 h))

  held_marked : (n : ℕ) → IsOldOrKept old n → IsMarked s n
  held_marked n h w = let b = black_by old n h in cc

  abbrev Start : ℕ → Type 0
  Start a = IsMinorScan old a ⊎ IsStart old roots stack a

  module _ (gen : IsGenerational old) where
    -- where an old or kept object isn't scanned again its children are old or kept
    held_children : (m q : ℕ) → IsOldOrKept old m → IsChild old m q → IsMinorScan old m ⊎ IsOldOrKept old q
    held_children m q h c = ⊎_elim
        (λ o. ⊎_elim
        (λ r. inl (or_left _ _ (and_from _ _ o r)))
        (λ f. inr (gen m q o f c))
        (cases_Bool (object_of old m).remembered))
        (λ k. inl (or_right _ _ k))
        h

    exactly : (n : ℕ) → IsMarked new n ↔ IsReached (IsChild s) (From s (roots ++ stack)) n
    exactly n = marked_exactly s new (roots ++ stack) again done p none
        (λ m q b fresh c. ⊎_elim
        (λ l. absurd (true≢false (sym ((again_is m).1 l) ∙ fresh)))
        (λ k. p.kept q (held_marked q k))
        (held_children m q (old_or_kept_from old m (λ w. cc)) (sym (is_child-same old s m q (SameGraph-old_marked old)) ∙ c))) n

    pub spared : (n : ℕ) → IsMarked new n ↔ IsSpared old roots stack n
    spared n =
        let same = SameGraph-old_marked old in (
          (λ m. IsReached-least (IsChild s) (From s (roots ++ stack)) (IsSpared old roots stack)
              (λ x y h c.
              let d : IsChild old x y = sym (is_child-same old s x y same) ∙ c in
              ⊎_elim
              (λ held. ⊎_elim
              (λ l. inr (IsReached-closed (IsChild old) Start x y (IsReached-start (IsChild old) Start x (inl l)) d))
              (λ k. inl k)
              (held_children x y held d))
              (λ r. inr (IsReached-closed (IsChild old) Start x y r d)) h)
              (λ x f. ⊎_elim
              (λ k. inl (old_or_kept_from old x k))
              (λ k. inr (IsReached-start (IsChild old) Start x (inr (start_split old roots stack x (sym (is_object-old_marked old x) ∙ k.0, k.1)))))
              f)
              n ((exactly n).0 m)),
          (λ h. ⊎_elim
              (λ o. p.kept n (held_marked n o))
              (λ r. (exactly n).1 (IsReached-mono (IsChild old) (IsChild s) Start (From s (roots ++ stack)) (λ x y c. is_child-same old s x y same ∙ c)
              (λ x f. IsReached-start (IsChild s) (From s (roots ++ stack)) x (⊎_elim
              (λ l. inl (held_marked x (reasons old x l)))
              (λ k. let t = start_join old roots stack x k in inr (is_object-old_marked old x ∙ t.0, t.1)) f)) n r))
              h),
        )

  -- what was scanned for the first time
  done_is : (n : ℕ) → (is_member nat_eq done n ≡ true) ↔ IsNewlyMarked old new n
  done_is n = (
    (λ d. let b = p.done_black n d in ((λ w. cc), (λ o. p.done_new n d (black_by old n o)))),
    (λ h. ⊎_elim
        (λ w. absurd (h.0 w))
        (λ q. ⊎_elim (λ g. absurd (none n g)) (λ b. p.black_done n b (λ o. h.1 (old_or_kept_from old n (λ w. cc)))) q)
        (colours (colour_of new n))),
  )

  pub counts : (k : ℕ) → length again + length done ≡ k → CountsAre (IsMinorScan old) (IsNewlyMarked old new) k
  counts k e = record {
    first = length again;
    second = length done;
    have_first = record { names = again; once = p.again_once; are = again_is; long = refl };
    have_second = record { names = done; once = p.once; are = done_is; long = refl };
    sum = e;
  }

  pub noted : Notes s new again done → IsNoted s new (IsMinorScanned old new)
  noted h = noted_by s new (λ n. is_read again done n ≡ true) (IsMinorScanned old new)
      (λ n r. ⊎_elim (λ a. inl ((again_is n).0 a)) (λ d. inr ((done_is n).0 d)) (or_cases _ _ r))
      (λ n q. ⊎_elim (λ l. or_left _ _ ((again_is n).1 l)) (λ d. or_right _ _ ((done_is n).1 d)) q) h
