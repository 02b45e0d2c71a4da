-- What visits of the fields of an object of age 2 or more leave of each object: unprotected children are kept.
use Rattle.std.proofs.Common.{◌≡◌, ◌≢◌, ◌⊎◌, inl, ⊎_elim, ℕ, ◌<◌, ◌+◌, Bool, true, false, not, ◌&&◌, ◌||◌, List, [], ◌∷◌, length, take, get_or, nat_eq, refl, sym, ap, ◌∙◌, arith, subst}
use Rattle.std.specs.List.{fold, list_any}
use Rattle.std.specs.Set.{is_member}
use Rattle.std.proofs.lemmas.Bool.{cases_eq, cases_Bool, and_parts, cond-true, cond-false}
use Rattle.std.proofs.lemmas.Bool.Decides.{nat_tests}
use Rattle.std.proofs.lemmas.List.{take_more}
use Rattle.std.proofs.lemmas.List.Sums.{fold_more}
use Rattle.std.proofs.lemmas.List.Folds.{list_any-append}
use Rattle.space_heap.specs.declared.colour.Colour.TheVariants.{White, Grey}
use Rattle.space_heap.specs.Slots.{ObjectView}
use Rattle.space_heap.specs.HeapView.{HeapView}
use Rattle.space_heap.specs.Objects.{is_object, object_of}
use Rattle.space_heap.specs.Marking.{colour_of, visited}
use Rattle.space_heap.specs.Generations.{kept_at, is_protected_at, is_young_word, kept_by_word, visited_by_aged}
use Rattle.space_heap.proofs.ObjectLaws.{occupied_from_object, stays, object_of-with_object_same, object_of-with_object_other}
use Rattle.space_tracing.specs.Scans.{is_any_young, visited_all_by_aged}
use Rattle.space_tracing.specs.Graph.{SameGraph}
use Rattle.space_tracing.specs.Marking.{IsMarked}
use Rattle.space_tracing.proofs.Same.{SameGraph-refl, SameGraph-then, SameGraph-with_object, is_object-same, guard-same}
use Rattle.space_tracing.proofs.Visits.{Visits, visits_word}

-- After the visits each object has the colour that it had, or was white, is named, and is grey; and what is unprotected and named is kept.
pub record AgedVisits (v : HeapView) (words : List ℕ) (u : HeapView) : Type 0 where
  pub same : SameGraph v u
  pub cases : (a : ℕ) → (colour_of u a ≡ colour_of v a)
      ⊎ ((colour_of v a ≡ White) × (colour_of u a ≡ Grey) × (is_object v a ≡ true) × (is_member nat_eq words a ≡ true))
  pub marks : (a : ℕ) → is_object v a ≡ true → is_member nat_eq words a ≡ true → IsMarked u a
  pub remembered : (a : ℕ) → (object_of u a).remembered ≡ (object_of v a).remembered
  pub kept : (a : ℕ) → (object_of u a).kept ≡ ((object_of v a).kept || (is_object v a && (not (is_protected_at v a) && is_member nat_eq words a)))

-- what keeping an object that a word names leaves
record Keeps (v : HeapView) (w : ℕ) (u : HeapView) : Type 0 where
  same : SameGraph v u
  colours : (a : ℕ) → colour_of u a ≡ colour_of v a
  remembered : (a : ℕ) → (object_of u a).remembered ≡ (object_of v a).remembered
  kept : (a : ℕ) → (object_of u a).kept ≡ ((object_of v a).kept || (is_object v a && (not (is_protected_at v a) && nat_eq a w)))

keeps_kept : (v : HeapView) (w : ℕ) → (is_object v w && not (is_protected_at v w)) ≡ true → Keeps v w (kept_at v w)
keeps_kept v w e =
    let p = and_parts (is_object v w) (not (is_protected_at v w)) e in
    let o : ObjectView = (let o : ObjectView = object_of v w in record o { kept = true }) in
    record {
      same = SameGraph-with_object v w o refl;
      colours = λ a. stays (λ (o : ObjectView). o.colour) v w o a refl;
      remembered = λ a. stays (λ (o : ObjectView). o.remembered) v w o a refl;
      kept = λ a.
          let here = ap (λ (o : ObjectView). o.kept) (object_of-with_object_same v w o (occupied_from_object v w p.0)) in
          let other = λ (n : a ≢ w). ap (λ (o : ObjectView). o.kept) (object_of-with_object_other v w o a n) in
          grind (arith, nat_tests, cases_eq a w, here, other, p);
    }

keeps_skipped : (v : HeapView) (w : ℕ) → (is_object v w && not (is_protected_at v w)) ≡ false → Keeps v w v
keeps_skipped v w e = record {
  same = SameGraph-refl v;
  colours = λ a. refl;
  remembered = λ a. refl;
  kept = λ a. grind (arith, nat_tests);
}

keeps_word : (v : HeapView) (w : ℕ) → Keeps v w (kept_by_word v w)
keeps_word v w =
    let b : Bool = is_object v w && not (is_protected_at v w) in
    ⊎_elim
    (λ t. subst (λ x. Keeps v w x) (sym (cond-true b (kept_at v w) v t)) (keeps_kept v w t))
    (λ f. subst (λ x. Keeps v w x) (sym (cond-false b (kept_at v w) v f)) (keeps_skipped v w f))
    (cases_Bool b)

visits_kept : (v u x : HeapView) (w : ℕ) → Visits v (w ∷ []) u → Keeps u w x → AgedVisits v (w ∷ []) x
visits_kept v u x w r k =
    let objects = λ (a : ℕ). is_object-same v u a r.same in
    let guards = λ (a : ℕ). guard-same v u a r.same in
    record {
      same = SameGraph-then v u x r.same k.same;
      cases = λ a. grind (arith, r.cases a, k.colours a);
      marks = λ a p m e. r.marks a p m (sym (k.colours a) ∙ e);
      remembered = λ a. k.remembered a ∙ r.notes.remembered a;
      kept = λ a. grind (arith, nat_tests, r.notes.kept a, k.kept a, objects a, guards a);
    }

aged_word : (v : HeapView) (w : ℕ) → AgedVisits v (w ∷ []) (visited_by_aged v w)
aged_word v w = visits_kept v (visited v w) _ w (visits_word v w) (keeps_word (visited v w) w)

aged_then : (v u x : HeapView) (w : ℕ) (words : List ℕ) → AgedVisits v (w ∷ []) u → AgedVisits u words x → AgedVisits v (w ∷ words) x
aged_then v u x w words s t =
    let objects = λ (a : ℕ). is_object-same v u a s.same in
    let guards = λ (a : ℕ). guard-same v u a s.same in
    record {
      same = SameGraph-then v u x s.same t.same;
      cases = λ a. grind (arith, nat_tests, s.cases a, t.cases a, objects a);
      marks = λ a p m e. grind (arith, nat_tests, s.cases a, t.cases a, objects a, s.marks a, t.marks a);
      remembered = λ a. t.remembered a ∙ s.remembered a;
      kept = λ a. grind (arith, nat_tests, s.kept a, t.kept a, objects a, guards a);
    }

aged_none : (v : HeapView) → AgedVisits v [] v
aged_none v = record { same = SameGraph-refl v; cases = λ a. inl refl; marks = λ a p m. cc; remembered = λ a. refl; kept = λ a. grind arith }

aged_fold : (words : List ℕ) (v : HeapView) → AgedVisits v words (fold visited_by_aged v words)
aged_fold [] v = aged_none v
aged_fold (w ∷ words) v = aged_then v (visited_by_aged v w) _ w words (aged_word v w) (aged_fold words (visited_by_aged v w))

pub aged_all : (v : HeapView) (words : List ℕ) → AgedVisits v words (visited_all_by_aged v words)
unfolding visited_all_by_aged
aged_all v words = aged_fold words v

pub visited_all_by_aged-more : (v : HeapView) (words : List ℕ) (i : ℕ) → i < length words
    → visited_all_by_aged v (take (i + 1) words) ≡ visited_by_aged (visited_all_by_aged v (take i words)) (get_or words i 0)
unfolding visited_all_by_aged
visited_all_by_aged-more v words i h = fold_more visited_by_aged v words i 0 h

pub visited_all_by_aged-none : (v : HeapView) → visited_all_by_aged v [] ≡ v
unfolding visited_all_by_aged
visited_all_by_aged-none v = refl

or_swapped : (a b : Bool) → (a || (b || false)) ≡ (b || a)
or_swapped true true = refl
or_swapped true false = refl
or_swapped false true = refl
or_swapped false false = refl

pub young-more : (v : HeapView) (words : List ℕ) (i : ℕ) → i < length words
    → is_any_young v (take (i + 1) words) ≡ (is_young_word v (get_or words i 0) || is_any_young v (take i words))
unfolding is_any_young
young-more v words i h =
    ap (list_any (is_young_word v)) (take_more words i 0 h)
    ∙ list_any-append (is_young_word v) (take i words) (get_or words i 0 ∷ [])
    ∙ or_swapped (list_any (is_young_word v) (take i words)) (is_young_word v (get_or words i 0))

pub young-none : (v : HeapView) → is_any_young v [] ≡ false
unfolding is_any_young
young-none v = refl
