-- The part Generations of the relation, read by names; and that it stays where no object's guard, age or kept mark changes, and none becomes black.
use Rattle.std.proofs.Common.{◌≡◌, ◌≢◌, ◌⊎◌, ◌&&◌, ℕ, Bool, true, false, min, nat_le, if◌then◌else◌, List, nat_eq, true≢false, refl, sym, ap, ◌∙◌, arith, Option, Some, ⊎_elim, inl, inr}
use Rattle.std.specs.Prelude.{is_some}
use Rattle.std.specs.Ordering.{nat_cmp}
use Rattle.std.specs.Set.{is_member}
use Rattle.std.specs.FinMap.{FinMap, get}
use Rattle.std.proofs.lemmas.Bool.{and_parts, or_left, or_right}
use Rattle.std.proofs.lemmas.Bool.Decides.{nat_tests}
use Rattle.space_model.specs.declared.object.Guard.{Guard}
use Rattle.space_model.specs.declared.phase.Phase.{Phase}
use Rattle.space_model.specs.declared.phase.Phase.TheVariants.{Marking}
use Rattle.space_model.specs.Ages.{is_protected_guard, is_protected, outlived_by, is_old_in}
use Rattle.space_model.specs.Graph.{Item, item_of, IsChild}
use Rattle.space_model.specs.Moments.{with_names}
use Rattle.space_model.specs.State.{Collector}
use Rattle.space_model.proofs.NotedLaws.{member-with_names}
use Rattle.space_heap.specs.declared.colour.Colour.TheVariants.{Black}
use Rattle.space_heap.specs.Slots.{ObjectView}
use Rattle.space_heap.specs.HeapView.{HeapView}
use Rattle.space_heap.specs.Marking.{colour_of}
use Rattle.space_heap.specs.Objects.{object_of}
use Rattle.space_heap.specs.Generations.{is_old, is_aged}
use Rattle.space_engine.specs.Generations.{age_of, HasGenerations}

-- what was noted stays noted
pub noted_more : (more names : List ℕ) (n : ℕ) → is_member nat_eq names n ≡ true → is_member nat_eq (with_names more names) n ≡ true
noted_more more names n m = member-with_names more names n ∙ or_right (is_member nat_eq more n) (is_member nat_eq names n) m

-- and what is noted now is too
pub noted_now : (more names : List ℕ) (n : ℕ) → is_member nat_eq more n ≡ true → is_member nat_eq (with_names more names) n ≡ true
noted_now more names n m = member-with_names more names n ∙ or_left (is_member nat_eq more n) (is_member nat_eq names n) m

-- age 3 is that of three verdicts
up_to_three : (n : ℕ) → nat_le 3 (min n 3) ≡ nat_le 3 n
up_to_three n = grind (arith, nat_tests)

three_by_guard : (b : Bool) (n : ℕ) → (b && nat_le 3 (if b then min n 3 else 0)) ≡ (b && nat_le 3 n)
three_by_guard true n = up_to_three n
three_by_guard false n = refl

-- a name is old where its object is
pub old_by_name : (graph : List Item) (place : FinMap nat_cmp ℕ) (outlived : List ℕ) (name address : ℕ) (object : ObjectView) →
    get place name ≡ Some address → object.guard ≡ (item_of graph name).guard → object.age ≡ age_of graph outlived name →
    is_old_in graph place outlived name ≡ is_old object
unfolding is_old_in
old_by_name graph place outlived name address object at guard age =
    ap (λ (o : Option ℕ). is_some o && (is_protected graph name && nat_le 3 (outlived_by outlived name))) at
    ∙ sym (three_by_guard (is_protected graph name) (outlived_by outlived name))
    ∙ ap (λ (n : ℕ). is_protected graph name && nat_le 3 n) (sym age)
    ∙ ap (λ (g : Guard). is_protected_guard g && nat_le 3 object.age) (sym guard)

-- an old object has age 2 or more
pub old_aged : (o : ObjectView) → is_old o ≡ true → is_aged o ≡ true
old_aged o e = let most : nat_le 3 o.age ≡ true = (and_parts (is_protected_guard o.guard) (nat_le 3 o.age) e).1 in grind (arith, nat_tests, most)

counted_age : (protects : Bool) (verdicts : ℕ) → nat_le 2 (if protects then min verdicts 3 else 0) ≡ true → protects ≡ true
counted_age true verdicts e = refl
counted_age false verdicts e = absurd (true≢false (sym e))

-- the write barrier protects the name of an object of age 2 or more: where it doesn't, the age is 0
pub aged_protected : (graph : List Item) (outlived : List ℕ) (name : ℕ) (object : ObjectView) → object.age ≡ age_of graph outlived name →
    is_aged object ≡ true → is_protected graph name ≡ true
aged_protected graph outlived name object age aged =
    counted_age (is_protected graph name) (outlived_by outlived name) (sym (ap (λ (n : ℕ). nat_le 2 n) age) ∙ aged)

-- guard, age and kept mark of the object of a name stay, and it is remembered where it was, or where it has a reason
pub record KeepsMarks (mixed : List ℕ) (name : ℕ) (old new : ObjectView) : Type 0 where
  pub guard : new.guard ≡ old.guard
  pub age : new.age ≡ old.age
  pub kept : new.kept ≡ old.kept
  pub still : old.remembered ≡ true → new.remembered ≡ true
  pub by : new.remembered ≡ true → (old.remembered ≡ true) ⊎ ((is_aged old ≡ true) × (is_member nat_eq mixed name ≡ true))

-- an object whose marks are the same keeps them
pub same_marks : (mixed : List ℕ) (name : ℕ) (old new : ObjectView) → new.guard ≡ old.guard → new.age ≡ old.age → new.kept ≡ old.kept →
    new.remembered ≡ old.remembered → KeepsMarks mixed name old new
same_marks mixed name old new guard age kept remembered = record {
  guard = guard;
  age = age;
  kept = kept;
  still = λ e. remembered ∙ e;
  by = λ e. inl (sym remembered ∙ e);
}

pub same_object : (mixed : List ℕ) (name : ℕ) (old new : ObjectView) → new ≡ old → KeepsMarks mixed name old new
same_object mixed name old new same = same_marks mixed name old new (ap (λ (o : ObjectView). o.guard) same) (ap (λ (o : ObjectView). o.age) same)
    (ap (λ (o : ObjectView). o.kept) same) (ap (λ (o : ObjectView). o.remembered) same)

-- what is said of old and of aged objects stays with guard and age
pub old_stays : (old new : ObjectView) → new.guard ≡ old.guard → new.age ≡ old.age → is_old new ≡ is_old old
old_stays old new guard age =
    ap (λ (g : Guard). is_protected_guard g && nat_le 3 new.age) guard ∙ ap (λ (n : ℕ). is_protected_guard old.guard && nat_le 3 n) age

pub aged_stays : (old new : ObjectView) → new.age ≡ old.age → is_aged new ≡ is_aged old
aged_stays old new age = ap (λ (n : ℕ). nat_le 2 n) age

not_remembered : (old new : Bool) → (old ≡ true → new ≡ true) → new ≡ false → old ≡ false
not_remembered true new still e = absurd (true≢false (sym (still refl) ∙ e))
not_remembered false new still e = refl

module _ (graph graph' : List Item) (place : FinMap nat_cmp ℕ) (collector : Collector) (mixed mixed' : List ℕ) (heap heap' : HeapView)
    (g : HasGenerations graph place collector mixed heap)
    (protects : (name address : ℕ) → get place name ≡ Some address → is_protected graph' name ≡ is_protected graph name)
    (more : (n : ℕ) → is_member nat_eq mixed n ≡ true → is_member nat_eq mixed' n ≡ true)
    (objects : (name address : ℕ) → get place name ≡ Some address → KeepsMarks mixed' name (object_of heap address) (object_of heap' address))
    (children : (parent child a c : ℕ) → get place parent ≡ Some a → get place child ≡ Some c → IsChild graph' parent child →
    is_aged (object_of heap a) ≡ true → (object_of heap' a).remembered ≡ false →
    IsChild graph parent child ⊎ (is_old (object_of heap c) ≡ true)) (phase : Phase) (cursor : ℕ) (stale : List (ℕ × ℕ))
    (rests : phase ≢ Marking → collector.phase ≢ Marking) (marks : phase ≡ Marking → collector.phase ≡ Marking)
    (black : phase ≡ Marking → (name address : ℕ) → get place name ≡ Some address → colour_of heap' address ≡ Black → colour_of heap address ≡ Black) where
  -- children that were old or kept are, and those that had age 2 or more or were kept have or are: the test reads guard and age alone, each old
  -- object passes it, and no object of less age than 2
  children_kept : (test : ObjectView → Bool) →
      ((old new : ObjectView) → new.guard ≡ old.guard → new.age ≡ old.age → test new ≡ test old) →
      ((o : ObjectView) → is_old o ≡ true → test o ≡ true) → ((o : ObjectView) → test o ≡ true → is_aged o ≡ true) → (parent child a c : ℕ) →
      get place parent ≡ Some a → get place child ≡ Some c → IsChild graph' parent child → test (object_of heap' a) ≡ true →
      (object_of heap' a).remembered ≡ false →
      (IsChild graph parent child → test (object_of heap a) ≡ true → (object_of heap a).remembered ≡ false →
      (test (object_of heap c) ≡ true) ⊎ ((object_of heap c).kept ≡ true)) →
      (test (object_of heap' c) ≡ true) ⊎ ((object_of heap' c).kept ≡ true)
  children_kept test stays from_old to_aged parent child a c at there is passes out before =
      let p = objects parent a at in
      let q = objects child c there in
      let passed : test (object_of heap a) ≡ true = sym (stays (object_of heap a) (object_of heap' a) p.guard p.age) ∙ passes in
      let was_out : (object_of heap a).remembered ≡ false =
      not_remembered (object_of heap a).remembered (object_of heap' a).remembered p.still out in
      ⊎_elim
      (λ (child_passed : test (object_of heap c) ≡ true). inl (stays (object_of heap c) (object_of heap' c) q.guard q.age ∙ child_passed))
      (λ (is_kept : (object_of heap c).kept ≡ true). inr (q.kept ∙ is_kept))
      (⊎_elim
      (λ was. before was passed was_out)
      (λ is_old_child. inl (from_old (object_of heap c) is_old_child))
      (children parent child a c at there is (to_aged (object_of heap a) passed) out))

  -- the graph, what was noted and the marks changed no more than that, and the collector's other parts as they may
  pub generations_kept : HasGenerations graph' place (record collector { phase = phase; cursor = cursor; stale = stale }) mixed' heap'
  generations_kept = record {
    ages = λ name address e.
        (objects name address e).age ∙ g.ages name address e
        ∙ ap (λ (b : Bool). if b then min (outlived_by collector.outlived name) 3 else 0) (sym (protects name address e));
    kept = record {
      certain = λ name address e m. (objects name address e).kept ∙ g.kept.certain name address e m;
      only = λ vague name address e k. g.kept.only vague name address e (sym (objects name address e).kept ∙ k);
      unprotected = λ name address e k. protects name address e ∙ g.kept.unprotected name address e (sym (objects name address e).kept ∙ k);
      outlived = λ rest name address e k. g.kept.outlived (rests rest) name address e (sym (objects name address e).kept ∙ k);
    };
    remembered = record {
      aged = λ name address e r. aged_stays (object_of heap address) (object_of heap' address) (objects name address e).age
          ∙ ⊎_elim (λ was. g.remembered.aged name address e was) (λ (aged, m). aged) ((objects name address e).by r);
      mixed_since = λ name address e r.
          ⊎_elim (λ was. more name (g.remembered.mixed_since name address e was)) (λ (aged, m). m) ((objects name address e).by r);
    };
    old_children = λ rest parent child a c at there is old out.
        children_kept is_old old_stays (λ o e. e) old_aged parent child a c at there is old out
        (g.old_children (rests rest) parent child a c at there);
    aged_children = λ marking parent child a c at there is scanned aged out.
        children_kept is_aged (λ old new guard age. aged_stays old new age) old_aged (λ o e. e) parent child a c at there is aged out
        (λ was. g.aged_children (marks marking) parent child a c at there was (black marking parent a at scanned));
  }

-- the same graph and the same marks at the places: more was noted, or the collector is at something else, but a marking goes on where one did
pub generations_same : (graph : List Item) (place : FinMap nat_cmp ℕ) (collector : Collector) (mixed more : List ℕ) (heap heap' : HeapView) →
    ((name address : ℕ) → get place name ≡ Some address → object_of heap' address ≡ object_of heap address) → (phase : Phase) (cursor : ℕ)
    (stale : List (ℕ × ℕ)) → (phase ≢ Marking → collector.phase ≢ Marking) → (phase ≡ Marking → collector.phase ≡ Marking) →
    HasGenerations graph place collector mixed heap →
    HasGenerations graph place (record collector { phase = phase; cursor = cursor; stale = stale }) (with_names more mixed) heap'
generations_same graph place collector mixed more heap heap' same phase cursor stale rests marks g =
    generations_kept graph graph place collector mixed (with_names more mixed) heap heap' g (λ name address e. refl) (noted_more more mixed)
    (λ name address e. same_object (with_names more mixed) name (object_of heap address) (object_of heap' address) (same name address e))
    (λ parent child a c at there is aged out. inl is) phase cursor stale rests marks
    (λ marking name address e scanned. sym (ap (λ (o : ObjectView). o.colour) (same name address e)) ∙ scanned)

-- only more was noted
pub generations_noted : (graph : List Item) (place : FinMap nat_cmp ℕ) (collector : Collector) (mixed more : List ℕ) (heap : HeapView) →
    HasGenerations graph place collector mixed heap → HasGenerations graph place collector (with_names more mixed) heap
generations_noted graph place collector mixed more heap g =
    generations_same graph place collector mixed more heap heap (λ name address e. refl) collector.phase collector.cursor collector.stale (λ rest. rest)
    (λ marking. marking) g
