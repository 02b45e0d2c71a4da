-- How remembered and kept marks go on, by words that are visited and by scans.
use Rattle.std.proofs.Common.{◌≡◌, inl, inr, ⊎_elim, ℕ, true, false, not, ◌||◌, List, [], nat_eq, refl, sym, ◌∙◌, arith, subst}
use Rattle.std.proofs.lemmas.Bool.{cases_eq, and_parts, or_cases, not-true, cond-true, cond-false}
use Rattle.std.proofs.lemmas.Bool.Decides.{nat_tests}
use Rattle.space_heap.specs.HeapView.{HeapView}
use Rattle.space_heap.specs.Objects.{object_of}
use Rattle.space_heap.specs.Generations.{is_protected_at}
use Rattle.space_tracing.specs.Scans.{is_aged_at, has_young_child}
use Rattle.space_tracing.specs.Graph.{is_child, SameGraph}
use Rattle.space_tracing.specs.Marking.{is_read, IsKeeper, Notes, IsNoted}
use Rattle.space_tracing.proofs.Same.{is_child-same, guard-same, aged-same, young_child-same}
use Rattle.space_tracing.proofs.Visits.{Visits}
use Rattle.space_tracing.proofs.Scans.{Scanned}

pub notes_none : (v : HeapView) → Notes v v [] []
notes_none v = record {
  remembered_aged = λ n r g. cc;
  remembered_young = λ n g. refl;
  remembered_other = λ n r. refl;
  kept_before = λ n k. k;
  kept_now = λ m n r k. cc;
  kept_only = λ n k. inl k;
}

pub notes_words : (old v u : HeapView) (more again done : List ℕ) → Notes old v again done → Visits v more u → Notes old u again done
notes_words old v u more again done p r = record {
  remembered_aged = λ n e g. r.notes.remembered n ∙ p.remembered_aged n e g;
  remembered_young = λ n g. r.notes.remembered n ∙ p.remembered_young n g;
  remembered_other = λ n e. r.notes.remembered n ∙ p.remembered_other n e;
  kept_before = λ n k. r.notes.kept n ∙ p.kept_before n k;
  kept_now = λ m n e k. r.notes.kept n ∙ p.kept_now m n e k;
  kept_only = λ n k. p.kept_only n (sym (r.notes.kept n) ∙ k);
}

-- one more object was scanned, whether for the first time or again
module _ (old v u : HeapView) (again done again' done' : List ℕ) (a : ℕ) (same : SameGraph old v) (p : Notes old v again done)
    (fresh : is_read again done a ≡ false) (split : (n : ℕ) → is_read again' done' n ≡ (is_read again done n || nat_eq n a)) (s : Scanned v a u) where
  aged : is_aged_at v a ≡ is_aged_at old a
  aged = aged-same old v a same

  -- the object itself
  here_aged : is_aged_at old a ≡ true → (object_of u a).remembered ≡ has_young_child old a
  here_aged g = s.remembered_here ∙ cond-true (is_aged_at v a) (has_young_child v a) (object_of v a).remembered (aged ∙ g) ∙ young_child-same old v a same

  here_young : is_aged_at old a ≡ false → (object_of u a).remembered ≡ (object_of v a).remembered
  here_young g = s.remembered_here ∙ cond-false (is_aged_at v a) (has_young_child v a) (object_of v a).remembered (aged ∙ g)

  before : (n : ℕ) → (n ≡ a → ⊥) → is_read again' done' n ≡ true → is_read again done n ≡ true
  before n differ r = grind (arith, nat_tests, split n, cases_eq n a)

  later : (n : ℕ) → is_read again done n ≡ true → is_read again' done' n ≡ true
  later n r = grind (arith, nat_tests, split n)

  now : is_read again' done' a ≡ true
  now = grind (arith, nat_tests, split a)

  keeper : (m n : ℕ) → m ≡ a → IsKeeper old m n → (object_of u n).kept ≡ true
  keeper m n is k =
      let child : is_child v a n ≡ true = is_child-same old v a n same ∙ subst (λ m. is_child old m n ≡ true) is k.child in
      let guard : is_protected_at v n ≡ false = guard-same old v n same ∙ k.unprotected in
      let old_enough : is_aged_at v a ≡ true = aged ∙ subst (λ m. is_aged_at old m ≡ true) is k.aged in
      grind (arith, s.kept n)

  pub notes_scan : Notes old u again' done'
  notes_scan = record {
    remembered_aged = λ n r g. ⊎_elim
        (λ is. subst (λ n. is_aged_at old n ≡ true → (object_of u n).remembered ≡ has_young_child old n) (sym is) here_aged g)
        (λ differ. s.remembered_other n differ ∙ p.remembered_aged n (before n differ r) g)
        (cases_eq n a);
    remembered_young = λ n g. ⊎_elim
        (λ is. subst (λ n. is_aged_at old n ≡ false → (object_of u n).remembered ≡ (object_of v n).remembered) (sym is) here_young g ∙ p.remembered_young n g)
        (λ differ. s.remembered_other n differ ∙ p.remembered_young n g)
        (cases_eq n a);
    remembered_other = λ n none. ⊎_elim
        (λ is. absurd (none (subst (λ n. is_read again' done' n ≡ true) (sym is) now)))
        (λ differ. s.remembered_other n differ ∙ p.remembered_other n (λ r. none (later n r)))
        (cases_eq n a);
    kept_before = λ n k. let was = p.kept_before n k in grind (arith, s.kept n);
    kept_now = λ m n r k. ⊎_elim
        (λ is. keeper m n is k)
        (λ differ. let was = p.kept_now m n (before m differ r) k in grind (arith, s.kept n))
        (cases_eq m a);
    kept_only = λ n k. ⊎_elim
        (λ l. ⊎_elim (λ o. inl o) (λ w. inr (w.0, later w.0 w.1, w.2)) (p.kept_only n l))
        (λ r.
        let t = and_parts (is_aged_at v a) _ r in
        let q = and_parts (not (is_protected_at v n)) (is_child v a n) t.1 in
        inr (
          a,
          now,
          record {
            aged = sym aged ∙ t.0;
            child = sym (is_child-same old v a n same) ∙ q.1;
            unprotected = sym (guard-same old v n same) ∙ not-true _ q.0;
          },
        ))
        (or_cases _ _ (sym (s.kept n) ∙ k));
  }

-- the same for a property that the scanned objects have, and no others
pub noted_by : (old new : HeapView) (P Q : ℕ → Type 0) → ((n : ℕ) → P n → Q n) → ((n : ℕ) → Q n → P n) → IsNoted old new P → IsNoted old new Q
noted_by old new P Q to from h = record {
  remembered_aged = λ n q g. h.remembered_aged n (from n q) g;
  remembered_young = h.remembered_young;
  remembered_other = λ n none. h.remembered_other n (λ p. none (to n p));
  kept_before = h.kept_before;
  kept_now = λ m n q k. h.kept_now m n (from m q) k;
  kept_only = λ n k. ⊎_elim (λ o. inl o) (λ w. inr (w.0, to w.0 w.1, w.2)) (h.kept_only n k);
}
