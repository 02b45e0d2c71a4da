-- The cases of a store, and of what the write barrier stops protecting.
use Rattle.std.proofs.Common.{◌≡◌, ℕ, Bool, true, false, not, ◌&&◌, if◌then◌else◌, refl, ap, ◌∙◌}
use Rattle.std.proofs.lemmas.Bool.{cond-true, cond-false}
use Rattle.space_heap.specs.HeapView.{HeapView}
use Rattle.space_heap.specs.Objects.{is_occupied, is_object, object_of, written}
use Rattle.space_heap.specs.Marking.{colour_of, is_white, visited, greyed}
use Rattle.space_heap.specs.Generations.{is_old, is_aged, remembered_as, kept_at, unprotected_at, is_protected_at}
use Rattle.space_heap.proofs.ObjectLaws.{occupied_from_object, is_object-with_object, is_occupied-with_object}
use Rattle.space_barrier.specs.Barrier.{remembered_for, barred, stored, unprotected}

-- a write of a field, and a change of a mark, leave which words name objects
pub is_object-written : (v : HeapView) (a i word b : ℕ) → is_object (written v a i word) b ≡ is_object v b
is_object-written v a i word b = is_object-with_object v a _ b refl

pub is_object-remembered_as : (v : HeapView) (a : ℕ) (remembered : Bool) (b : ℕ) → is_object (remembered_as v a remembered) b ≡ is_object v b
is_object-remembered_as v a remembered b = is_object-with_object v a _ b refl

pub is_object-remembered_for : (v : HeapView) (a child b : ℕ) → is_object (remembered_for v a child) b ≡ is_object v b
is_object-remembered_for v a child b = by_test (is_aged (object_of v a) && not (is_old (object_of v child)))
  where
    by_test : (test : Bool) → is_object (if test then remembered_as v a true else v) b ≡ is_object v b
    by_test true = is_object-remembered_as v a true b
    by_test false = refl

pub is_occupied-unprotected_at : (v : HeapView) (a b : ℕ) → is_occupied (unprotected_at v a) b ≡ is_occupied v b
is_occupied-unprotected_at v a b = is_occupied-with_object v a _ b

-- where the rules of the barrier apply, and where they don't
pub stored_barred : (v : HeapView) (a i word : ℕ) → (is_object (written v a i word) word && is_protected_at (written v a i word) a) ≡ true
    → stored v a i word ≡ barred (written v a i word) a word
unfolding stored
stored_barred v a i word e = cond-true _ _ _ e

pub stored_plain : (v : HeapView) (a i word : ℕ) → (is_object (written v a i word) word && is_protected_at (written v a i word) a) ≡ false
    → stored v a i word ≡ written v a i word
unfolding stored
stored_plain v a i word e = cond-false _ _ _ e

-- a visit of an object greys it where it is white
pub visited_object : (v : HeapView) (a : ℕ) → is_object v a ≡ true → visited v a ≡ (if is_white (colour_of v a) then greyed v a else v)
visited_object v a e = ap (λ b. if b && is_white (colour_of v a) then greyed v a else v) e

pub unprotected_same : (v : HeapView) (a : ℕ) → is_protected_at v a ≡ false → unprotected v a ≡ v
unfolding unprotected
unprotected_same v a e = cond-false _ _ _ e

pub unprotected_kept : (v : HeapView) (a : ℕ) → is_protected_at v a ≡ true → is_aged (object_of v a) ≡ true → unprotected v a ≡ kept_at (unprotected_at v a) a
unfolding unprotected
unprotected_kept v a e aged = cond-true _ _ _ e ∙ cond-true _ _ _ aged

pub unprotected_young : (v : HeapView) (a : ℕ) → is_protected_at v a ≡ true → is_aged (object_of v a) ≡ false → unprotected v a ≡ unprotected_at v a
unfolding unprotected
unprotected_young v a e young = cond-true _ _ _ e ∙ cond-false _ _ _ young

pub ruleset storing = (is_object-written, is_object-remembered_for, is_occupied-unprotected_at, occupied_from_object, stored_barred, stored_plain)

pub ruleset unprotecting = (is_occupied-unprotected_at, occupied_from_object, unprotected_same, unprotected_kept, unprotected_young)
