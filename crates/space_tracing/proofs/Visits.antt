-- What visits of words leave of each object.
use Rattle.std.proofs.Common.{◌≡◌, ◌≢◌, ◌⊎◌, inl, ⊎_elim, ℕ, ◌<◌, ◌+◌, Bool, true, false, ◌&&◌, List, [], ◌∷◌, ◌++◌, length, take, get_or, nat_eq, refl, sym, arith, subst}
use Rattle.std.specs.List.{fold}
use Rattle.std.specs.Set.{is_member}
use Rattle.std.proofs.lemmas.Bool.{cases_eq, cases_Bool, and_parts, cond-true, cond-false}
use Rattle.std.proofs.lemmas.Bool.Decides.{nat_tests}
use Rattle.std.proofs.lemmas.List.Sums.{fold_more}
use Rattle.space_heap.specs.declared.colour.Colour.{Colour}
use Rattle.space_heap.specs.declared.colour.Colour.TheVariants.{White, Grey, Black}
use Rattle.space_heap.specs.HeapView.{HeapView}
use Rattle.space_heap.specs.Objects.{is_object}
use Rattle.space_heap.specs.Marking.{colour_of, is_white, visited, greyed}
use Rattle.space_heap.proofs.ObjectLaws.{occupied_from_object}
use Rattle.space_heap.proofs.MarkingLaws.{White-from_is_white, colour_of-recoloured_same, colour_of-recoloured_other}
use Rattle.space_tracing.specs.Scans.{visited_all}
use Rattle.space_tracing.specs.Graph.{SameGraph}
use Rattle.space_tracing.specs.Marking.{IsMarked}
use Rattle.space_tracing.proofs.Same.{SameNotes, SameGraph-refl, SameGraph-then, SameGraph-recoloured, SameNotes-refl, SameNotes-then, SameNotes-recoloured, is_object-same}

marked_from_not : (c : Colour) → is_white c ≡ false → c ≢ White
marked_from_not White e = λ w. cc
marked_from_not Grey e = λ w. cc
marked_from_not Black e = λ w. cc

-- After the visits each object has the colour that it had, or was white, is named, and is grey.
pub record Visits (v : HeapView) (words : List ℕ) (u : HeapView) : Type 0 where
  pub same : SameGraph v u
  pub notes : SameNotes v u
  pub cases : (a : ℕ) → (colour_of u a ≡ colour_of v a)
      ⊎ ((colour_of v a ≡ White) × (colour_of u a ≡ Grey) × (is_object v a ≡ true) × (is_member nat_eq words a ≡ true))
  pub marks : (a : ℕ) → is_object v a ≡ true → is_member nat_eq words a ≡ true → IsMarked u a

visits_greyed : (v : HeapView) (w : ℕ) → is_object v w ≡ true → is_white (colour_of v w) ≡ true → Visits v (w ∷ []) (greyed v w)
visits_greyed v w o e =
    let white = White-from_is_white (colour_of v w) e in
    let list : List ℕ = v.grey ++ w ∷ [] in
    let here = colour_of-recoloured_same v w Grey list (occupied_from_object v w o) in
    record {
      same = SameGraph-recoloured v w Grey list;
      notes = SameNotes-recoloured v w Grey list;
      cases = λ a. grind (arith, nat_tests, cases_eq a w, here, colour_of-recoloured_other v w Grey list a);
      marks = λ a p m. grind (arith, nat_tests, here);
    }

visits_skipped : (v : HeapView) (w : ℕ) → (is_object v w && is_white (colour_of v w)) ≡ false → Visits v (w ∷ []) v
visits_skipped v w e = record {
  same = SameGraph-refl v;
  notes = SameNotes-refl v;
  cases = λ a. inl refl;
  marks = λ a p m. marked_from_not (colour_of v a) (grind (arith, nat_tests));
}

pub visits_word : (v : HeapView) (w : ℕ) → Visits v (w ∷ []) (visited v w)
visits_word v w =
    let b : Bool = is_object v w && is_white (colour_of v w) in
    ⊎_elim
    (λ t. let p = and_parts (is_object v w) (is_white (colour_of v w)) t in
    subst (λ x. Visits v (w ∷ []) x) (sym (cond-true b (greyed v w) v t)) (visits_greyed v w p.0 p.1))
    (λ f. subst (λ x. Visits v (w ∷ []) x) (sym (cond-false b (greyed v w) v f)) (visits_skipped v w f))
    (cases_Bool b)

visits_then : (v u x : HeapView) (w : ℕ) (words : List ℕ) → Visits v (w ∷ []) u → Visits u words x → Visits v (w ∷ words) x
visits_then v u x w words s t =
    let objects = λ (a : ℕ). is_object-same v u a s.same in
    record {
      same = SameGraph-then v u x s.same t.same;
      notes = SameNotes-then v u x s.notes t.notes;
      cases = λ a. grind (arith, nat_tests, s.cases a, t.cases a, objects a);
      marks = λ a p m e. grind (arith, nat_tests, s.cases a, t.cases a, objects a, s.marks a, t.marks a);
    }

visits_none : (v : HeapView) → Visits v [] v
visits_none v = record { same = SameGraph-refl v; notes = SameNotes-refl v; cases = λ a. inl refl; marks = λ a p m. cc }

visits_fold : (words : List ℕ) (v : HeapView) → Visits v words (fold visited v words)
visits_fold [] v = visits_none v
visits_fold (w ∷ words) v = visits_then v (visited v w) _ w words (visits_word v w) (visits_fold words (visited v w))

pub visits_all : (v : HeapView) (words : List ℕ) → Visits v words (visited_all v words)
unfolding visited_all
visits_all v words = visits_fold words v

pub visited_all-more : (v : HeapView) (words : List ℕ) (i : ℕ) → i < length words
    → visited_all v (take (i + 1) words) ≡ visited (visited_all v (take i words)) (get_or words i 0)
unfolding visited_all
visited_all-more v words i h = fold_more visited v words i 0 h

pub visited_all-none : (v : HeapView) → visited_all v [] ≡ v
unfolding visited_all
visited_all-none v = refl
