-- How marking goes on, by words that are visited and by scans.
use Rattle.std.proofs.Common.{◌≡◌, ◌⊎◌, inl, inr, ⊎_elim, ℕ, false, List, [], ◌∷◌, ◌++◌, nat_eq, sym, ◌∙◌, arith, subst}
use Rattle.std.specs.Set.{is_member}
use Rattle.std.specs.Cmp.{nat_eq_equiv}
use Rattle.std.proofs.lemmas.List.Folds.{list_any-append}
use Rattle.std.proofs.lemmas.Map.Keys.{IsDistinct-push}
use Rattle.std.proofs.lemmas.Bool.{cases_eq, false_from_ne_true}
use Rattle.std.proofs.lemmas.Bool.Decides.{nat_tests}
use Rattle.space_model.specs.Reach.{IsReached}
use Rattle.space_model.proofs.Reaching.{IsReached-start, IsReached-closed, IsReached-mono}
use Rattle.space_heap.specs.declared.colour.Colour.TheVariants.{Grey, Black}
use Rattle.space_heap.specs.HeapView.{HeapView}
use Rattle.space_heap.specs.Marking.{colour_of}
use Rattle.space_heap.proofs.NumberLists.{is_member-push, IsDistinct-none}
use Rattle.space_tracing.specs.Graph.{IsChild, IsNamed, SameGraph}
use Rattle.space_tracing.specs.Marking.{IsMarked, Marking}
use Rattle.space_tracing.proofs.Same.{is_object-same, is_child-same}
use Rattle.space_tracing.proofs.Visits.{Visits}
use Rattle.space_tracing.proofs.Scans.{Scanned}

-- what marking begins with: what is marked, and what the words name
abbrev pub From : HeapView → List ℕ → ℕ → Type 0
From v words a = IsMarked v a ⊎ IsNamed v words a

pub marking_none : (v : HeapView) → Marking v v [] [] []
marking_none v = record {
  kept = λ a m. m;
  black_kept = λ a b. b;
  once = IsDistinct-none;
  done_black = λ a m. cc;
  done_new = λ a m. cc;
  black_done = λ a b n. absurd (n b);
  again_once = IsDistinct-none;
  again_black = λ a m. cc;
  named = λ n m. let q = m.1 in cc;
  closed = λ m n d c. cc;
  sound = λ n m. IsReached-start (IsChild v) (From v []) n (inl m);
}

-- words were visited
pub marking_words : (old v u : HeapView) (words more again done : List ℕ) → SameGraph old v → Marking old v words again done → Visits v more u
    → Marking old u (words ++ more) again done
marking_words old v u words more again done same p r =
    let split = λ (n : ℕ). list_any-append (nat_eq n) words more in
    let objects = λ (n : ℕ). is_object-same old v n same in
    record {
      kept = λ a m. let k = p.kept a m in λ w. grind (arith, r.cases a);
      black_kept = λ a b. grind (arith, p.black_kept a, r.cases a);
      once = p.once;
      done_black = λ a m. grind (arith, p.done_black a, r.cases a);
      done_new = p.done_new;
      black_done = λ a b n. grind (arith, p.black_done a, r.cases a);
      again_once = p.again_once;
      again_black = p.again_black;
      named = λ n m w. grind (arith, p.named n, r.cases n, r.marks n, objects n, split n);
      closed = λ m n d c w. grind (arith, p.closed m n d c, r.cases n);
      sound = λ n m. ⊎_elim
          (λ e. IsReached-mono (IsChild old) (IsChild old) (From old words) (From old (words ++ more)) (λ x y c. c)
          (λ x f. IsReached-start (IsChild old) (From old (words ++ more)) x (⊎_elim (λ k. inl k) (λ k. inr (k.0, grind (arith, split x, k.1))) f)) n
          (p.sound n (λ w. m (e ∙ w))))
          (λ e. IsReached-start (IsChild old) (From old (words ++ more)) n (inr (sym (objects n) ∙ e.2, grind (arith, split n, e.3))))
          (r.cases n);
    }

-- what a scan marked is reached
sound_scanned : (old v u : HeapView) (words again done : List ℕ) (a : ℕ) → SameGraph old v → Marking old v words again done → IsMarked v a → Scanned v a u
    → (n : ℕ) → IsMarked u n → IsReached (IsChild old) (From old words) n
sound_scanned old v u words again done a same p k s n m =
    let here = p.sound a k in
    ⊎_elim
    (λ e. subst (λ x. IsReached (IsChild old) (From old words) x) (sym e) here)
    (λ d. ⊎_elim
    (λ e. p.sound n (λ w. m (e ∙ w)))
    (λ new. IsReached-closed (IsChild old) (From old words) a n here (sym (is_child-same old v a n same) ∙ new.2))
    (s.cases n d))
    (cases_eq n a)

-- the object that became grey last was scanned
pub marking_scan : (old v u : HeapView) (words again done : List ℕ) (a : ℕ) → SameGraph old v → Marking old v words again done → colour_of v a ≡ Grey
    → Scanned v a u → Marking old u words again (done ++ a ∷ [])
marking_scan old v u words again done a same p g s =
    let fresh : is_member nat_eq done a ≡ false = false_from_ne_true _ (λ m. let b = p.done_black a m in cc) in
    let split = λ (n : ℕ). is_member-push done a n in
    record {
      kept = λ n m w. grind (arith, p.kept n m, s.cases n, s.black, cases_eq n a);
      black_kept = λ n b. grind (arith, p.black_kept n, s.cases n, s.black, cases_eq n a);
      once = IsDistinct-push nat_eq_equiv done a p.once fresh;
      done_black = λ n m. grind (arith, nat_tests, split n, p.done_black n, s.cases n, s.black, cases_eq n a);
      done_new = λ n m b. grind (arith, nat_tests, split n, p.done_new n, p.black_kept n, g, cases_eq n a);
      black_done = λ n b d. grind (arith, nat_tests, split n, p.black_done n, s.cases n, cases_eq n a);
      again_once = p.again_once;
      again_black = p.again_black;
      named = λ n m w. grind (arith, p.named n m, s.cases n, s.black, cases_eq n a);
      closed = λ m n d c w. grind (arith, nat_tests, split m, p.closed m n, s.cases n, s.black, s.marks n, is_child-same old v m n same, cases_eq n a);
      sound = sound_scanned old v u words again done a same p (λ w. cc) s;
    }

-- an object that was black was scanned again
pub marking_again : (old v u : HeapView) (words again done : List ℕ) (a : ℕ) → SameGraph old v → Marking old v words again done → colour_of old a ≡ Black
    → is_member nat_eq again a ≡ false → Scanned v a u → Marking old u words (again ++ a ∷ []) done
marking_again old v u words again done a same p g fresh s =
    let split = λ (n : ℕ). is_member-push again a n in
    let here = p.black_kept a g in
    record {
      kept = λ n m w. grind (arith, p.kept n m, s.cases n, s.black, cases_eq n a);
      black_kept = λ n b. grind (arith, p.black_kept n, s.cases n, s.black, cases_eq n a);
      once = p.once;
      done_black = λ n m. grind (arith, nat_tests, p.done_black n, s.cases n, s.black, cases_eq n a);
      done_new = p.done_new;
      black_done = λ n b d. grind (arith, nat_tests, p.black_done n, s.cases n, cases_eq n a);
      again_once = IsDistinct-push nat_eq_equiv again a p.again_once fresh;
      again_black = λ n m. grind (arith, nat_tests, split n, p.again_black n);
      named = λ n m w. grind (arith, p.named n m, s.cases n, s.black, cases_eq n a);
      closed = λ m n d c w. grind (arith, nat_tests, split m, p.closed m n, s.cases n, s.black, s.marks n, is_child-same old v m n same, cases_eq n a);
      sound = sound_scanned old v u words again done a same p (λ w. cc) s;
    }
