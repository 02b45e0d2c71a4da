-- What a scan leaves of each object.
use Rattle.std.proofs.Common.{◌≡◌, ◌≢◌, ◌⊎◌, ⊎_elim, ℕ, suc, ◌+◌, ◌-◌, true, false, not, cond, ◌&&◌, ◌||◌, List, length, take, refl, sym, ap, subst, ◌∙◌, arith}
use Rattle.std.proofs.lemmas.Bool.{cases_Bool, cond-true, cond-false}
use Rattle.space_heap.specs.declared.colour.Colour.TheVariants.{White, Grey, Black}
use Rattle.space_heap.specs.Slots.{ObjectView}
use Rattle.space_heap.specs.HeapView.{HeapView}
use Rattle.space_heap.specs.Objects.{is_occupied, object_of}
use Rattle.space_heap.specs.Marking.{colour_of, blackened}
use Rattle.space_heap.specs.Generations.{remembered_as, is_protected_at}
use Rattle.space_heap.proofs.ObjectLaws.{stays, object_of-with_object_same, object_of-with_object_other}
use Rattle.space_heap.proofs.MarkingLaws.{is_occupied-recoloured, colour_of-recoloured_same, colour_of-recoloured_other}
use Rattle.space_heap.proofs.Coherence.{occupied_from_colour}
use Rattle.space_tracing.specs.Scans.{fields_of, is_aged_at, has_young_child, visited_all, visited_all_by_aged, read_object, scanned, last_grey, scans}
use Rattle.space_tracing.specs.Graph.{IsChild, is_child, SameGraph}
use Rattle.space_tracing.specs.Marking.{IsMarked}
use Rattle.space_tracing.proofs.Same.{SameGraph-then, SameGraph-recoloured, SameGraph-with_object, SameNotes-recoloured, is_child-same, guard-same, aged-same, young_child-same}
use Rattle.space_tracing.proofs.Visits.{Visits, visits_all}
use Rattle.space_tracing.proofs.AgedVisits.{AgedVisits, aged_all}

-- the fields of a were visited
record Scan (v : HeapView) (a : ℕ) (u : HeapView) : Type 0 where
  same : SameGraph v u
  cases : (n : ℕ) → (colour_of u n ≡ colour_of v n) ⊎ ((colour_of v n ≡ White) × (colour_of u n ≡ Grey) × IsChild v a n)
  marks : (n : ℕ) → IsChild v a n → IsMarked u n
  remembered_other : (n : ℕ) → n ≢ a → (object_of u n).remembered ≡ (object_of v n).remembered
  remembered_here : (object_of u a).remembered ≡ cond (is_aged_at v a) (has_young_child v a) (object_of v a).remembered
  kept : (n : ℕ) → (object_of u n).kept ≡ ((object_of v n).kept || (is_aged_at v a && (not (is_protected_at v n) && is_child v a n)))

scan_younger : (v u : HeapView) (a : ℕ) → is_aged_at v a ≡ false → Visits v (fields_of v a) u → Scan v a u
scan_younger v u a e r = record {
  same = r.same;
  cases = λ n. grind (arith, r.cases n);
  marks = λ n c. grind (arith, r.marks n);
  remembered_other = λ n d. r.notes.remembered n;
  remembered_here = r.notes.remembered a ∙ sym (cond-false (is_aged_at v a) (has_young_child v a) (object_of v a).remembered e);
  kept = λ n. grind (arith, r.notes.kept n);
}

scan_aged : (v u : HeapView) (a : ℕ) → is_occupied v a ≡ true → is_aged_at v a ≡ true → AgedVisits v (fields_of v a) u
    → Scan v a (remembered_as u a (has_young_child v a))
scan_aged v u a e aged r =
    let o : ObjectView = (let o : ObjectView = object_of u a in record o { remembered = has_young_child v a }) in
    let colours = λ (n : ℕ). stays (λ (o : ObjectView). o.colour) u a o n refl in
    let keeps = λ (n : ℕ). stays (λ (o : ObjectView). o.kept) u a o n refl in
    record {
      same = SameGraph-then v u _ r.same (SameGraph-with_object u a o refl);
      cases = λ n. grind (arith, r.cases n, colours n);
      marks = λ n c. grind (arith, r.marks n, colours n);
      remembered_other = λ n d. ap (λ (o : ObjectView). o.remembered) (object_of-with_object_other u a o n d) ∙ r.remembered n;
      remembered_here = ap (λ (o : ObjectView). o.remembered) (object_of-with_object_same u a o (r.same.standing a ∙ e))
          ∙ sym (cond-true (is_aged_at v a) (has_young_child v a) (object_of v a).remembered aged);
      kept = λ n. grind (arith, r.kept n, keeps n);
    }

scan_read : (v : HeapView) (a : ℕ) → is_occupied v a ≡ true → Scan v a (read_object v a)
scan_read v a e =
    let x : HeapView = remembered_as (visited_all_by_aged v (fields_of v a)) a (has_young_child v a) in
    let y : HeapView = visited_all v (fields_of v a) in
    ⊎_elim
    (λ t. subst (λ u. Scan v a u) (sym (cond-true (is_aged_at v a) x y t)) (scan_aged v _ a e t (aged_all v (fields_of v a))))
    (λ f. subst (λ u. Scan v a u) (sym (cond-false (is_aged_at v a) x y f)) (scan_younger v _ a f (visits_all v (fields_of v a))))
    (cases_Bool (is_aged_at v a))

-- a was scanned: it is black, its white children are grey, and its marks and those of its children are noted
pub record Scanned (v : HeapView) (a : ℕ) (u : HeapView) : Type 0 where
  pub same : SameGraph v u
  pub black : colour_of u a ≡ Black
  pub cases : (n : ℕ) → n ≢ a → (colour_of u n ≡ colour_of v n) ⊎ ((colour_of v n ≡ White) × (colour_of u n ≡ Grey) × IsChild v a n)
  pub marks : (n : ℕ) → IsChild v a n → IsMarked u n
  pub remembered_other : (n : ℕ) → n ≢ a → (object_of u n).remembered ≡ (object_of v n).remembered
  pub remembered_here : (object_of u a).remembered ≡ cond (is_aged_at v a) (has_young_child v a) (object_of v a).remembered
  pub kept : (n : ℕ) → (object_of u n).kept ≡ ((object_of v n).kept || (is_aged_at v a && (not (is_protected_at v n) && is_child v a n)))

scanned_black : (v u : HeapView) (a : ℕ) → colour_of v a ≡ Black → Scan v a u → Scanned v a u
scanned_black v u a b s = record {
  same = s.same;
  black = grind (arith, s.cases a);
  cases = λ n d. s.cases n;
  marks = s.marks;
  remembered_other = s.remembered_other;
  remembered_here = s.remembered_here;
  kept = s.kept;
}

scanned_grey : (v u : HeapView) (a : ℕ) → colour_of v a ≡ Grey → Scan (blackened v a) a u → Scanned v a u
scanned_grey v u a g s =
    let rest : List ℕ = take (length v.grey - 1) v.grey in
    let w : HeapView = blackened v a in
    let t = SameGraph-recoloured v a Black rest in
    let notes = SameNotes-recoloured v a Black rest in
    let here = colour_of-recoloured_same v a Black rest (occupied_from_colour v a (λ e. cc)) in
    record {
      same = SameGraph-then v w u t s.same;
      black = grind (arith, s.cases a, here);
      cases = λ n d. grind (arith, s.cases n, colour_of-recoloured_other v a Black rest n d, is_child-same v w a n t);
      marks = λ n c. s.marks n (is_child-same v w a n t ∙ c);
      remembered_other = λ n d. s.remembered_other n d ∙ notes.remembered n;
      remembered_here =
          s.remembered_here
          ∙ ap (λ b. cond b (has_young_child w a) (object_of w a).remembered) (aged-same v w a t)
          ∙ ap (λ b. cond (is_aged_at v a) b (object_of w a).remembered) (young_child-same v w a t)
          ∙ ap (λ b. cond (is_aged_at v a) (has_young_child v a) b) (notes.remembered a);
      kept = λ n. grind (arith, s.kept n, notes.kept n, aged-same v w a t, guard-same v w n t, is_child-same v w a n t);
    }

pub scanned_first : (v : HeapView) (a : ℕ) → colour_of v a ≡ Grey → Scanned v a (scanned v a)
scanned_first v a g = scanned_grey v _ a g (scan_read (blackened v a) a (is_occupied-recoloured v a Black _ a ∙ occupied_from_colour v a (λ e. cc)))

pub scanned_again : (v : HeapView) (a : ℕ) → colour_of v a ≡ Black → Scanned v a (read_object v a)
scanned_again v a b = scanned_black v _ a b (scan_read v a (occupied_from_colour v a (λ e. cc)))

pub scans-none : (v : HeapView) → scans 0 v ≡ v
unfolding scans
scans-none v = refl

-- one more scan was made
pub scans-more : (v w : HeapView) (k a : ℕ) → w ≡ scans k v → a ≡ last_grey w → scanned w a ≡ scans (k + 1) v
unfolding scans
scans-more v w k a made last =
    let n : suc k ≡ k + 1 = omega arith in
    ap (scanned w) last ∙ ap (λ (u : HeapView). scanned u (last_grey u)) made ∙ ap (λ k. scans k v) n
