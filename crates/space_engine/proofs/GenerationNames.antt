-- The heap's words against names, where no object was moved: children, ages, and what a minor marking rests on.
use Rattle.std.proofs.Common.{◌≡◌, ◌≢◌, ℕ, ◌&&◌, Bool, true, false, true≢false, nat_le, nat_lt, min, List, [], ◌∷◌, nat_eq, refl, sym, ap, ◌∙◌, subst, arith, Some, ⊎_elim, inl, if◌then◌else◌}
use Rattle.std.specs.Ordering.{nat_cmp}
use Rattle.std.specs.Set.{is_member}
use Rattle.std.specs.FinMap.{FinMap, get, empty}
use Rattle.std.proofs.lemmas.Bool.{cases_Bool, and_parts, and_from, or_cases, or_left, or_right, eqb-true, eq-eqb, false≢true}
use Rattle.std.proofs.lemmas.Bool.Decides.{nat_tests}
use Rattle.space_model.specs.declared.event.Kind.{Kind}
use Rattle.space_model.specs.declared.event.Kind.TheVariants.{Minor, Major, Full}
use Rattle.space_model.specs.declared.object.Guard.{Guard}
use Rattle.space_model.specs.declared.phase.Phase.{Phase}
use Rattle.space_model.specs.declared.phase.Phase.TheVariants.{Marking}
use Rattle.space_model.specs.Ages.{is_protected_guard, is_protected, outlived_by, is_old_in}
use Rattle.space_model.specs.Graph.{Item, item_of, IsChild}
use Rattle.space_model.specs.State.{State}
use Rattle.space_heap.specs.HeapView.{HeapView}
use Rattle.space_heap.specs.Objects.{is_occupied, is_object, object_of}
use Rattle.space_heap.specs.Generations.{is_old, is_aged, is_young_word, is_protected_at}
use Rattle.space_heap.specs.Sweeping.{HasNoGone}
use Rattle.space_heap.proofs.Coherence.{object_of_none, occupied_from_colour}
use Rattle.space_heap.proofs.SettledLaws.{none_gone}
use Rattle.space_tracing.specs.Graph as heap
use Rattle.space_tracing.specs.Scans.{is_any_young, has_young_child, fields_of}
use Rattle.space_tracing.specs.Marking.{IsMarked}
use Rattle.space_major.specs.Incremental.{IsTricolour}
use Rattle.space_minor.specs.Minors.{IsOldOrKept, IsGenerational}
use Rattle.space_collector.specs.KindMarkings.{IsReadyFor}
use Rattle.space_engine.specs.Generations.{HasAges}
use Rattle.space_engine.specs.Stands.{Holds}
use Rattle.space_engine.specs.Views.{View}
use Rattle.space_engine.proofs.GenerationLists.{is_old_in-at}
use Rattle.space_engine.proofs.KindNotes.{black_marked}
use Rattle.space_engine.proofs.Outcomes.{some_same}
use Rattle.space_engine.proofs.Reaching.{child_live, child_reached}

-- an old or a kept object stands
pub held_stands : (v : HeapView) (a : ℕ) → IsOldOrKept v a → is_occupied v a ≡ true
held_stands v a h = ⊎_elim
    (λ t. t)
    (λ f. absurd (⊎_elim
    (λ old. true≢false (sym old ∙ ap is_old (object_of_none v a f)))
    (λ kept. true≢false (sym kept ∙ ap (λ o. o.kept) (object_of_none v a f)))
    h))
    (cases_Bool (is_occupied v a))

-- a verdict of kind Major ends the marking that goes on, and those of the other kinds are given where none does
abbrev pub IsJudgedIn : Kind → Phase → Type 0
IsJudgedIn Minor phase = phase ≢ Marking
IsJudgedIn Major phase = phase ≡ Marking
IsJudgedIn Full phase = phase ≢ Marking

-- what ages say of the verdicts that were outlived

least : (n : ℕ) → nat_le 3 (min n 3) ≡ nat_le 3 n
least n = grind (arith, nat_tests)

old_by : (p : Bool) (guard : Guard) (age n : ℕ) → is_protected_guard guard ≡ p → age ≡ (if p then min n 3 else 0) →
    (is_protected_guard guard && nat_le 3 age) ≡ (p && nat_le 3 n)
old_by true guard age n e f = (λ i. e i && nat_le 3 (f i)) ∙ least n
old_by false guard age n e f = ap (λ b. b && nat_le 3 age) e

module _ (graph : List Item) (place : FinMap nat_cmp ℕ) (outlived : List ℕ) (heap : HeapView) (ages : HasAges graph place outlived heap) where
  -- the object of a name is old where the name is
  pub is_old-named : (name address : ℕ) → get place name ≡ Some address → (object_of heap address).guard ≡ (item_of graph name).guard →
      is_old (object_of heap address) ≡ is_old_in graph place outlived name
  is_old-named name address at guard =
      old_by (is_protected graph name) (object_of heap address).guard (object_of heap address).age (outlived_by outlived name) (ap is_protected_guard guard)
      (ages name address at)
      ∙ sym (is_old_in-at graph place outlived name address at)

-- words that name protected objects of age 0 or 1

young_found : (v : HeapView) (words : List ℕ) → is_any_young v words ≡ true → (x : ℕ) × (is_member nat_eq words x ≡ true) × (is_young_word v x ≡ true)
unfolding is_any_young
young_found v [] e = absurd (false≢true e)
young_found v (y ∷ ys) e = ⊎_elim
    (λ t. (y, or_left (nat_eq y y) _ (eq-eqb y y refl), t))
    (λ r. let u = young_found v ys r in (u.0, or_right (nat_eq u.0 y) _ u.1, u.2))
    (or_cases (is_young_word v y) (is_any_young v ys) e)

young_there : (v : HeapView) (words : List ℕ) (x : ℕ) → is_member nat_eq words x ≡ true → is_young_word v x ≡ true → is_any_young v words ≡ true
unfolding is_any_young
young_there v [] x m e = absurd (false≢true m)
young_there v (y ∷ ys) x m e = ⊎_elim
    (λ t. or_left (is_young_word v y) _ (ap (is_young_word v) (sym (eqb-true x y t)) ∙ e))
    (λ r. or_right (is_young_word v y) _ (young_there v ys x r e))
    (or_cases (nat_eq x y) _ m)

-- a child of age 0 or 1
pub record HasYoungChild (v : HeapView) (a : ℕ) : Type 0 where
  pub at : ℕ
  pub child : heap.IsChild v a at
  pub young : is_aged (object_of v at) ≡ false

pub young_child : (v : HeapView) (a : ℕ) → has_young_child v a ≡ true → HasYoungChild v a
young_child v a e =
    let found = young_found v (fields_of v a) e in
    let is = and_parts (is_object v found.0) _ found.2 in
    let young = (and_parts (is_protected_at v found.0) _ is.1).1 in
    record {
      at = found.0;
      child = and_from _ _ is.0 found.1;
      young = grind (arith, nat_tests, young);
    }

-- where there is none, each protected child has age 2 or more
pub aged_child : (v : HeapView) (a c : ℕ) → has_young_child v a ≡ false → heap.IsChild v a c → is_protected_at v c ≡ true → is_aged (object_of v c) ≡ true
aged_child v a c none child guard = ⊎_elim
    (λ t. t)
    (λ f.
    let parts = and_parts (is_object v c) _ child in
    absurd (true≢false (sym (young_there v (fields_of v a) c parts.1 (and_from _ _ parts.0 (and_from _ _ guard (young_age (object_of v c).age f)))) ∙ none)))
    (cases_Bool (is_aged (object_of v c)))
  where
    young_age : (age : ℕ) → nat_le 2 age ≡ false → nat_lt age 2 ≡ true
    young_age age f = grind (arith, nat_tests, f)

module _ (v : View) (s : State) (h : Holds v s) (unmoved : s.heap.left ≡ empty) (fresh : s.collector.stale ≡ []) where
  -- a child by name is one by address
  pub child_at : (parent name a c : ℕ) → get s.heap.place parent ≡ Some a → get s.heap.place name ≡ Some c → IsChild s.graph parent name →
      heap.IsChild v.heap a c
  child_at parent name a c from to child =
      let r = child_live v s h unmoved fresh parent name a from child in
      subst (heap.IsChild v.heap a) (some_same r.0 c (sym r.1 ∙ to)) r.2

  -- the write barrier protects an object where it protects its name
  pub guard_at : (name address : ℕ) → get s.heap.place name ≡ Some address → is_protected_at v.heap address ≡ is_protected s.graph name
  guard_at name address at = ap is_protected_guard (h.represents.heap.objects.is name address at).guard

  pub old_at : (name address : ℕ) → get s.heap.place name ≡ Some address →
      is_old (object_of v.heap address) ≡ is_old_in s.graph s.heap.place s.collector.outlived name
  old_at name address at =
      is_old-named s.graph s.heap.place s.collector.outlived v.heap h.represents.generations.ages name address at
      (h.represents.heap.objects.is name address at).guard

  module _ (clean : HasNoGone v.heap) where
    -- an old or a kept object has a name
    pub held_named : (a : ℕ) → IsOldOrKept v.heap a → get s.heap.place (object_of v.heap a).name ≡ Some a
    held_named a held = h.represents.heap.objects.only a (sym (none_gone v.heap a clean) ∙ held_stands v.heap a held)

    -- outside a marking the old objects that aren't remembered have only old and kept children
    pub generational : s.collector.phase ≢ Marking → IsGenerational v.heap
    generational rests m n old forgotten child =
        let at = held_named m (inl old) in
        let r = child_reached v s h unmoved fresh m n (object_of v.heap m).name at child in
        h.represents.generations.old_children rests (object_of v.heap m).name r.0 m n at r.1 r.2 old forgotten

    -- a marked object has a name
    pub marked_named : (a : ℕ) → IsMarked v.heap a → get s.heap.place (object_of v.heap a).name ≡ Some a
    marked_named a m = h.represents.heap.objects.only a (sym (none_gone v.heap a clean) ∙ occupied_from_colour v.heap a m)

    -- in a marking no protected black object has a white child
    pub tricolour : s.collector.phase ≡ Marking → IsTricolour v.heap
    tricolour marking m n black guard child =
        let colours = h.represents.colours marking in
        let name : ℕ = (object_of v.heap m).name in
        let at = marked_named m (black_marked v.heap m black) in
        let r = child_reached v s h unmoved fresh m n name at child in
        colours.children name r.0 m n at r.1 r.2 (sym (guard_at name m at) ∙ guard) black

    -- so a marking of any kind may begin, or end
    pub ready : (kind : Kind) → IsJudgedIn kind s.collector.phase → IsReadyFor kind v.heap
    ready Minor rests = generational rests
    ready Major marking = tricolour marking
    ready Full rests = tt
