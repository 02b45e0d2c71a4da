-- What holds of every heap holds after the sweep of the first page that waits.
use Rattle.std.proofs.Common.{◌≡◌, ◌≢◌, ℕ, Bool, true, false, not, ◌&&◌, cond, List, [], ◌∷◌, length, map, nat_eq, refl, sym, ap, ◌∙◌, subst, arith, None, Some, ⊎_elim, ◌⊎◌, inl, inr}
use Rattle.std.specs.Prelude.{is_some}
use Rattle.std.specs.List.{range_with_len, filter, list_all}
use Rattle.std.proofs.Math.ListN.{length-map}
use Rattle.std.proofs.lemmas.Bool.{cases_eq, and_parts}
use Rattle.std.proofs.lemmas.Bool.Decides.{nat_tests}
use Rattle.std.proofs.lemmas.List.Elements.{filter_agree}
use Rattle.space_heap.specs.Slots.{is_free}
use Rattle.space_heap.specs.HeapView.{PageView, HeapView, no_page, page_at, pool_at, is_unswept}
use Rattle.space_heap.specs.SoundHeap.{IsSoundHeap}
use Rattle.space_heap.specs.Sweeping.{swept_slot, swept_page, swept}
use Rattle.space_heap.proofs.SweptLaws.{page_at-swept_same, page_at-swept_other, is_unswept-swept, unswept-swept}
use Rattle.space_sweep.specs.Sweeps.{SweepsFirst}
use Rattle.space_collector.proofs.PageSweeps.{count-first, limit-first}

-- a page after its sweep is spare and has no slots, or has the pool and as many slots as before
record IsSweptPage (p q : PageView) : Type 0 where
  known : (pool : ℕ) → q.pool ≡ Some pool → (p.pool ≡ Some pool) × (length q.slots ≡ length p.slots)
  spare : q.pool ≡ None → (length q.slots ≡ 0) ⊎ ((p.pool ≡ None) × (length q.slots ≡ length p.slots))

swept_page_is : (p : PageView) → IsSweptPage p (swept_page p)
swept_page_is p = by_free (list_all is_free (map swept_slot p.slots))
  where
    by_free : (free : Bool) → IsSweptPage p (cond free no_page (record { pool = p.pool; slots = map swept_slot p.slots }))
    by_free true = record { known = λ pool e. cc; spare = λ e. inl refl }
    by_free false = record {
      known = λ pool e. (e, length-map p.slots swept_slot);
      spare = λ e. inr (e, length-map p.slots swept_slot);
    }

same_page : (p : PageView) → IsSweptPage p p
same_page p = record { known = λ pool e. (e, refl); spare = λ e. inr (e, refl) }

-- a list that is filtered twice
filter_twice : (p q : ℕ → Bool) (xs : List ℕ) → filter q (filter p xs) ≡ filter (λ x. p x && q x) xs
filter_twice p q [] = refl
filter_twice p q (x ∷ xs) = one (p x) (filter_twice p q xs)
  where
    one : (b : Bool) → filter q (filter p xs) ≡ filter (λ x. p x && q x) xs →
        filter q (cond b (x ∷ filter p xs) (filter p xs)) ≡ cond (b && q x) (x ∷ filter (λ x. p x && q x) xs) (filter (λ x. p x && q x) xs)
    one true rest = ap (λ ys. cond (q x) (x ∷ ys) ys) rest
    one false rest = rest

module _ (v z : HeapView) (freed : ℕ) (s : SweepsFirst v z freed) (sound : IsSoundHeap v) where
  page_is : (k : ℕ) → IsSweptPage (page_at v k) (page_at z k)
  page_is k = subst (λ (z : HeapView). IsSweptPage (page_at v k) (page_at z k)) (sym s.after) (⊎_elim
      (λ here. subst (λ k. IsSweptPage (page_at v k) (page_at (swept v s.page) k)) (sym here)
      (subst (IsSweptPage (page_at v s.page)) (sym (page_at-swept_same v s.page)) (swept_page_is (page_at v s.page))))
      (λ other. subst (IsSweptPage (page_at v k)) (sym (page_at-swept_other v s.page k other)) (same_page (page_at v k)))
      (cases_eq k s.page))

  waits_is : (k : ℕ) → is_unswept z k ≡ (is_unswept v k && not (nat_eq k s.page))
  waits_is k = ap (λ (z : HeapView). is_unswept z k) s.after ∙ is_unswept-swept v s.page k

  pub sound-first : IsSoundHeap z
  sound-first = record {
    most = let same = limit-first v z freed s in let most = sound.most in omega arith;
    limited = let same = limit-first v z freed s in let count = count-first v z freed s in let limited = sound.limited in omega arith;
    known = λ k pool e. sound.known k pool ((page_is k).known pool e).0;
    long = λ k pool e. let was = (page_is k).known pool e in was.1 ∙ sound.long k pool was.0;
    spare = λ k e. ⊎_elim (λ none. none) (λ was. was.1 ∙ sound.spare k was.0) ((page_is k).spare e);
    waiting =
        ap (λ (z : HeapView). z.unswept) s.after
        ∙ unswept-swept v s.page
        ∙ ap (filter (λ other. not (nat_eq other s.page))) sound.waiting
        ∙ filter_twice (is_unswept v) (λ other. not (nat_eq other s.page)) (range_with_len 0 (length v.pages))
        ∙ filter_agree (λ k. is_unswept v k && not (nat_eq k s.page)) (is_unswept z) (λ k. sym (waits_is k)) (range_with_len 0 (length v.pages))
        ∙ ap (λ n. filter (is_unswept z) (range_with_len 0 n)) (sym (count-first v z freed s));
    have_pools = λ k e.
        let parts = and_parts _ _ (sym (waits_is k) ∙ e) in
        let other : k ≢ s.page = grind (arith, nat_tests, parts.1) in
        ap (λ (z : HeapView). is_some (pool_at z k)) s.after
        ∙ ap (λ (p : PageView). is_some p.pool) (page_at-swept_other v s.page k other)
        ∙ sound.have_pools k parts.0;
  }
