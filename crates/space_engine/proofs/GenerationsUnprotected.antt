-- The part Generations after the write barrier stopped protecting a name: its object isn't old any more, and it is kept where it had age 2 or
-- more, so that an old parent's child stays one that a minor marking begins with.
use Rattle.std.proofs.Common.{◌≡◌, ◌≢◌, ◌⊎◌, ◌&&◌, ℕ, ◌≤◌, Bool, true, false, min, nat_le, if◌then◌else◌, true≢false, List, ◌∷◌, nat_eq, refl, sym, ap, ◌∙◌, subst, arith, Some, ⊎_elim, inl, inr}
use Rattle.std.specs.List.{flat_map}
use Rattle.std.specs.Set.{is_member}
use Rattle.std.specs.FinMap.{get}
use Rattle.std.proofs.lemmas.Bool.{cases_Bool, cases_eq, and_parts, and_from, or_cases, or_left, or_right, eq-eqb, eqb-true, false≢true, cond-true, cond-false}
use Rattle.std.proofs.lemmas.Bool.Decides.{nat_tests}
use Rattle.space_model.specs.declared.phase.Phase.TheVariants.{Marking}
use Rattle.space_model.specs.Ages.{is_protected_guard, is_protected, outlived_by}
use Rattle.space_model.specs.Graph.{Item, item_of, with_item, names_of, children, IsChild}
use Rattle.space_model.specs.Kept.{kept_with_unprotected}
use Rattle.space_model.specs.Moments.{mixed_names, with_names, noted}
use Rattle.space_model.specs.Pieces.{item_unprotected, unprotected as unprotected_state}
use Rattle.space_model.specs.State.{State, Collector}
use Rattle.space_heap.specs.Slots.{ObjectView}
use Rattle.space_heap.specs.HeapView.{HeapView}
use Rattle.space_heap.specs.Objects.{object_of}
use Rattle.space_heap.specs.Generations.{is_old, is_aged}
use Rattle.space_heap.proofs.ObjectLaws.{occupied_from_object}
use Rattle.space_barrier.specs.Barrier.{unprotected}
use Rattle.space_engine.specs.Generations.{age_of, HasGenerations}
use Rattle.space_engine.specs.Stands.{Represents, Holds}
use Rattle.space_engine.specs.Views.{View, with_unprotected}
use Rattle.space_engine.proofs.ColoursUnprotected.{colours_unprotected}
use Rattle.space_engine.proofs.GenerationsByName.{noted_more, old_aged, aged_protected}
use Rattle.space_engine.proofs.Outcomes.{some_same}
use Rattle.space_engine.proofs.ResolvedRoots.{resolved_roots-same}
use Rattle.space_engine.proofs.TablesKept.{ids_led, weak_led}
use Rattle.space_engine.proofs.UnprotectedObjects.{OneChanged, kept_object, young_object, unprotected_object, unprotected_is, item_cases, heap_unprotected}

-- what is kept after it, and what was kept before
more_kept : (add : Bool) (name n : ℕ) (kept : List ℕ) → is_member nat_eq kept n ≡ true → is_member nat_eq (if add then name ∷ kept else kept) n ≡ true
more_kept true name n kept m = or_right (nat_eq n name) (is_member nat_eq kept n) m
more_kept false name n kept m = m

kept_now : (add : Bool) (name : ℕ) (kept : List ℕ) → add ≡ true → is_member nat_eq (if add then name ∷ kept else kept) name ≡ true
kept_now true name kept e = or_left (nat_eq name name) (is_member nat_eq kept name) (eq-eqb name name refl)
kept_now false name kept e = absurd (false≢true e)

kept_cases : (add : Bool) (name n : ℕ) (kept : List ℕ) → is_member nat_eq (if add then name ∷ kept else kept) n ≡ true →
    ((n ≡ name) × (add ≡ true)) ⊎ (is_member nat_eq kept n ≡ true)
kept_cases true name n kept m = ⊎_elim (λ same. inl (eqb-true n name same, refl)) (λ was. inr was) (or_cases (nat_eq n name) (is_member nat_eq kept n) m)
kept_cases false name n kept m = inr m

-- age 2 is that of two verdicts
up_to_two : (n : ℕ) → nat_le 2 (min n 3) ≡ nat_le 2 n
up_to_two n = grind (arith, nat_tests)

two_by_guard : (b : Bool) (n : ℕ) → (b && nat_le 2 (if b then min n 3 else 0)) ≡ (b && nat_le 2 n)
two_by_guard true n = up_to_two n
two_by_guard false n = refl

-- the marks of the object after it
unprotected_age : (o : ObjectView) → (is_protected_guard o.guard ≡ false → o.age ≡ 0) → (unprotected_object o).age ≡ 0
unprotected_age o free = by_test (is_protected_guard o.guard) (is_aged o) refl
  where
    by_test : (protected aged : Bool) → is_protected_guard o.guard ≡ protected →
        (if protected then (if aged then kept_object o else young_object o) else o).age ≡ 0
    by_test true true e = refl
    by_test true false e = refl
    by_test false aged e = free e

unprotected_forgets : (o : ObjectView) → (is_protected_guard o.guard ≡ false → o.remembered ≡ false) → (unprotected_object o).remembered ≡ false
unprotected_forgets o free = by_test (is_protected_guard o.guard) (is_aged o) refl
  where
    by_test : (protected aged : Bool) → is_protected_guard o.guard ≡ protected →
        (if protected then (if aged then kept_object o else young_object o) else o).remembered ≡ false
    by_test true true e = refl
    by_test true false e = refl
    by_test false aged e = free e

unprotected_adds : (o : ObjectView) → (is_protected_guard o.guard && is_aged o) ≡ true → (unprotected_object o).kept ≡ true
unprotected_adds o e =
    let both = and_parts (is_protected_guard o.guard) (is_aged o) e in
    ap (λ (o : ObjectView). o.kept)
    (cond-true (is_protected_guard o.guard) _ o both.0 ∙ cond-true (is_aged o) (kept_object o) (young_object o) both.1)

unprotected_still : (o : ObjectView) → o.kept ≡ true → (unprotected_object o).kept ≡ true
unprotected_still o e = by_test (is_protected_guard o.guard) (is_aged o)
  where
    by_test : (protected aged : Bool) → (if protected then (if aged then kept_object o else young_object o) else o).kept ≡ true
    by_test true true = refl
    by_test true false = e
    by_test false aged = e

unprotected_kept_by : (o : ObjectView) → (unprotected_object o).kept ≡ true → (o.kept ≡ true) ⊎ ((is_protected_guard o.guard && is_aged o) ≡ true)
unprotected_kept_by o e = by_test (is_protected_guard o.guard) (is_aged o) e
  where
    by_test : (protected aged : Bool) → (if protected then (if aged then kept_object o else young_object o) else o).kept ≡ true →
        (o.kept ≡ true) ⊎ ((protected && aged) ≡ true)
    by_test true true e = inr refl
    by_test true false e = inl e
    by_test false aged e = inl e

module _ (v : View) (s : State) (h : Holds v s) (name address : ℕ) (at : get s.heap.place name ≡ Some address) where
  abbrev g : HasGenerations s.graph s.heap.place s.collector s.history.mixed v.heap
  g = h.represents.generations

  abbrev graph' : List Item
  graph' = with_item s.graph name (item_unprotected (item_of s.graph name))

  abbrev z : HeapView
  z = unprotected v.heap address

  abbrev before : ObjectView
  before = object_of v.heap address

  abbrev outlived : List ℕ
  outlived = s.collector.outlived

  abbrev adds : Bool
  adds = is_protected s.graph name && nat_le 2 (outlived_by outlived name)

  abbrev kept' : List ℕ
  kept' = kept_with_unprotected s.graph outlived name s.collector.kept

  abbrev mixed' : List ℕ
  mixed' = with_names (mixed_names (unprotected_state s name)) s.history.mixed

  changed : OneChanged v.heap z address (unprotected_object before)
  changed = unprotected_is v.heap address (occupied_from_object v.heap address (h.represents.heap.objects.stands name address at))

  guard_is : is_protected_guard before.guard ≡ is_protected s.graph name
  guard_is = ap is_protected_guard (h.represents.heap.objects.is name address at).guard

  -- it is kept in the heap where it is in the state
  adds_is : (is_protected_guard before.guard && is_aged before) ≡ adds
  adds_is =
      ap (λ (b : Bool). b && is_aged before) guard_is
      ∙ ap (λ (n : ℕ). is_protected s.graph name && nat_le 2 n) (g.ages name address at)
      ∙ two_by_guard (is_protected s.graph name) (outlived_by outlived name)

  no_age : is_protected_guard before.guard ≡ false → before.age ≡ 0
  no_age free = g.ages name address at
      ∙ cond-false (is_protected s.graph name) (min (outlived_by outlived name) 3) 0 (sym guard_is ∙ free)

  not_remembered : is_protected_guard before.guard ≡ false → before.remembered ≡ false
  not_remembered free = ⊎_elim
      (λ (r : before.remembered ≡ true).
      absurd (false≢true (sym (ap (λ (n : ℕ). nat_le 2 n) (no_age free)) ∙ g.remembered.aged name address at r)))
      (λ (f : before.remembered ≡ false). f)
      (cases_Bool before.remembered)

  age_here : (object_of z address).age ≡ 0
  age_here = ap (λ (o : ObjectView). o.age) changed.here ∙ unprotected_age before no_age

  forgets_here : (object_of z address).remembered ≡ false
  forgets_here = ap (λ (o : ObjectView). o.remembered) changed.here ∙ unprotected_forgets before not_remembered

  still_here : before.kept ≡ true → (object_of z address).kept ≡ true
  still_here e = ap (λ (o : ObjectView). o.kept) changed.here ∙ unprotected_still before e

  adds_here : adds ≡ true → (object_of z address).kept ≡ true
  adds_here e = ap (λ (o : ObjectView). o.kept) changed.here ∙ unprotected_adds before (adds_is ∙ e)

  kept_here : (object_of z address).kept ≡ true → (before.kept ≡ true) ⊎ (adds ≡ true)
  kept_here e = ⊎_elim (λ was. inl was) (λ now. inr (sym adds_is ∙ now))
      (unprotected_kept_by before (sym (ap (λ (o : ObjectView). o.kept) changed.here) ∙ e))

  -- what is said of the name and its object, and of each other one as it was, is said of all
  by_name : (P : ℕ → ObjectView → Type 0) → P name (object_of z address) → ((n a : ℕ) → n ≢ name → get s.heap.place n ≡ Some a → P n (object_of v.heap a)) →
      (n a : ℕ) → get s.heap.place n ≡ Some a → P n (object_of z a)
  by_name P here others n a e = ⊎_elim
      (λ (same, item).
      let there : a ≡ address = some_same a address (sym e ∙ ap (get s.heap.place) same ∙ at) in
      subst (λ (n : ℕ). P n (object_of z a)) (sym same) (subst (λ (a : ℕ). P name (object_of z a)) (sym there) here))
      (λ (other, item).
      let away : a ≢ address = λ same. other (h.sound.layout.placed.once n name address (e ∙ ap Some same) at) in
      subst (λ (o : ObjectView). P n o) (sym (changed.others a away)) (others n a other e))
      (item_cases s v.heap h.represents.heap h.sound name address at n a e)

  item_here : item_of graph' name ≡ item_unprotected (item_of s.graph name)
  item_here = ⊎_elim (λ (same, item). item) (λ (other, item). absurd (other refl))
      (item_cases s v.heap h.represents.heap h.sound name address at name address at)

  item_other : (n a : ℕ) → n ≢ name → get s.heap.place n ≡ Some a → item_of graph' n ≡ item_of s.graph n
  item_other n a differ e = ⊎_elim (λ (same, item). absurd (differ same)) (λ (other, item). item)
      (item_cases s v.heap h.represents.heap h.sound name address at n a e)

  free_here : is_protected graph' name ≡ false
  free_here = ap (λ (item : Item). is_protected_guard item.guard) item_here

  protects_other : (n a : ℕ) → n ≢ name → get s.heap.place n ≡ Some a → is_protected graph' n ≡ is_protected s.graph n
  protects_other n a differ e = ap (λ (item : Item). is_protected_guard item.guard) (item_other n a differ e)

  ages_after : (n a : ℕ) → get s.heap.place n ≡ Some a → (object_of z a).age ≡ age_of graph' outlived n
  ages_after = by_name (λ n o. o.age ≡ age_of graph' outlived n)
      (age_here ∙ sym (cond-false (is_protected graph' name) (min (outlived_by outlived name) 3) 0 free_here))
      (λ n a differ e. g.ages n a e ∙ ap (λ (b : Bool). if b then min (outlived_by outlived n) 3 else 0) (sym (protects_other n a differ e)))

  certain_after : (n a : ℕ) → get s.heap.place n ≡ Some a → is_member nat_eq kept' n ≡ true → (object_of z a).kept ≡ true
  certain_after = by_name (λ n o. is_member nat_eq kept' n ≡ true → o.kept ≡ true)
      (λ m. ⊎_elim (λ (same, now). adds_here now) (λ was. still_here (g.kept.certain name address at was)) (kept_cases adds name name s.collector.kept m))
      (λ n a differ e m. ⊎_elim (λ (same, now). absurd (differ same)) (λ was. g.kept.certain n a e was) (kept_cases adds name n s.collector.kept m))

  only_after : s.collector.vague ≡ 0 → (n a : ℕ) → get s.heap.place n ≡ Some a → (object_of z a).kept ≡ true → is_member nat_eq kept' n ≡ true
  only_after vague = by_name (λ n o. o.kept ≡ true → is_member nat_eq kept' n ≡ true)
      (λ k. ⊎_elim
      (λ was. more_kept adds name name s.collector.kept (g.kept.only vague name address at was))
      (λ now. kept_now adds name s.collector.kept now)
      (kept_here k))
      (λ n a differ e k. more_kept adds name n s.collector.kept (g.kept.only vague n a e k))

  outlived_after : s.collector.phase ≢ Marking → (n a : ℕ) → get s.heap.place n ≡ Some a → (object_of z a).kept ≡ true → 1 ≤ outlived_by outlived n
  outlived_after rests = by_name (λ n o. o.kept ≡ true → 1 ≤ outlived_by outlived n)
      (λ k. ⊎_elim
      (λ was. g.kept.outlived rests name address at was)
      (λ now.
      let most : nat_le 2 (outlived_by outlived name) ≡ true = (and_parts (is_protected s.graph name) (nat_le 2 (outlived_by outlived name)) now).1 in
      grind (arith, nat_tests, most))
      (kept_here k))
      (λ n a differ e k. g.kept.outlived rests n a e k)

  -- the children of each other name are those that it had
  children_other : (parent a child : ℕ) → parent ≢ name → get s.heap.place parent ≡ Some a → IsChild graph' parent child → IsChild s.graph parent child
  unfolding children
  children_other parent a child differ e is =
      sym (ap (λ (item : Item). is_member nat_eq (flat_map names_of item.values) child) (item_other parent a differ e)) ∙ is

  not_aged_here : is_aged (object_of z address) ≡ false
  not_aged_here = ap (λ (n : ℕ). nat_le 2 n) age_here

  -- the object is kept where it had age 2 or more
  aged_kept : is_aged before ≡ true → (object_of z address).kept ≡ true
  aged_kept aged =
      let protected : is_protected s.graph name ≡ true = aged_protected s.graph outlived name before (g.ages name address at) aged in
      adds_here (sym adds_is ∙ and_from _ _ (guard_is ∙ protected) aged)

  -- what was old or kept is, and what had age 2 or more or was kept has or is: no object of less age passes the test
  stays_or_kept : (test : ObjectView → Bool) → ((o : ObjectView) → test o ≡ true → is_aged o ≡ true) → (a : ℕ) →
      (test (object_of v.heap a) ≡ true) ⊎ ((object_of v.heap a).kept ≡ true) → (test (object_of z a) ≡ true) ⊎ ((object_of z a).kept ≡ true)
  stays_or_kept test to_aged a was = ⊎_elim
      (λ (here : a ≡ address). inr (ap (λ a. (object_of z a).kept) here ∙ ⊎_elim
      (λ passed. aged_kept (to_aged before (ap (λ a. test (object_of v.heap a)) (sym here) ∙ passed)))
      (λ kept. still_here (ap (λ a. (object_of v.heap a).kept) (sym here) ∙ kept))
      was))
      (λ (away : a ≢ address). subst (λ (o : ObjectView). (test o ≡ true) ⊎ (o.kept ≡ true)) (sym (changed.others a away)) was)
      (cases_eq a address)

  -- the parent passes the test, so it isn't the name's object: it is as it was
  children_after : (test : ObjectView → Bool) → ((o : ObjectView) → test o ≡ true → is_aged o ≡ true) → (parent child a c : ℕ) →
      get s.heap.place parent ≡ Some a → get s.heap.place child ≡ Some c → IsChild graph' parent child → test (object_of z a) ≡ true →
      (object_of z a).remembered ≡ false →
      (IsChild s.graph parent child → object_of z a ≡ object_of v.heap a → test (object_of v.heap a) ≡ true →
      (object_of v.heap a).remembered ≡ false → (test (object_of v.heap c) ≡ true) ⊎ ((object_of v.heap c).kept ≡ true)) →
      (test (object_of z c) ≡ true) ⊎ ((object_of z c).kept ≡ true)
  children_after test to_aged parent child a c pat cat is passes out old =
      let away : a ≢ address =
      λ here. true≢false (sym (to_aged (object_of z a) passes) ∙ ap (λ a. is_aged (object_of z a)) here ∙ not_aged_here) in
      let other : parent ≢ name = λ same. away (some_same a address (sym pat ∙ ap (get s.heap.place) same ∙ at)) in
      let same = changed.others a away in
      stays_or_kept test to_aged c
      (old (children_other parent a child other pat is) same (sym (ap test same) ∙ passes) (sym (ap (λ (o : ObjectView). o.remembered) same) ∙ out))

  pub generations_unprotected : HasGenerations graph' s.heap.place (let c : Collector = s.collector in record c { kept = kept' }) mixed' z
  generations_unprotected = record {
    ages = ages_after;
    kept = record {
      certain = certain_after;
      only = only_after;
      unprotected = by_name (λ n o. o.kept ≡ true → is_protected graph' n ≡ false) (λ k. free_here)
          (λ n a differ e k. protects_other n a differ e ∙ g.kept.unprotected n a e k);
      outlived = outlived_after;
    };
    remembered = record {
      aged = by_name (λ n o. o.remembered ≡ true → is_aged o ≡ true) (λ r. absurd (true≢false (sym r ∙ forgets_here)))
          (λ n a differ e r. g.remembered.aged n a e r);
      mixed_since = by_name (λ n o. o.remembered ≡ true → is_member nat_eq mixed' n ≡ true) (λ r. absurd (true≢false (sym r ∙ forgets_here)))
          (λ n a differ e r. noted_more (mixed_names (unprotected_state s name)) s.history.mixed n (g.remembered.mixed_since n a e r));
    };
    old_children = λ rests parent child a c pat cat is old out.
        children_after is_old old_aged parent child a c pat cat is old out (λ was same. g.old_children rests parent child a c pat cat was);
    aged_children = λ marking parent child a c pat cat is scanned aged out.
        children_after is_aged (λ o e. e) parent child a c pat cat is aged out
        (λ was same. g.aged_children marking parent child a c pat cat was (sym (ap (λ (o : ObjectView). o.colour) same) ∙ scanned));
  }

  -- the name isn't protected any more
  pub after_unprotected : Represents (with_unprotected v address) (noted (unprotected_state s name))
  after_unprotected = record {
    heap = heap_unprotected s v.heap h.represents.heap h.sound name address at kept';
    generations = generations_unprotected;
    colours = colours_unprotected v s h name address at;
    roots = resolved_roots-same v.heap z changed.leads v.roots ∙ h.represents.roots;
    stack = h.represents.stack;
    ids = ids_led s.heap.place v.heap z changed.leads s.tables.ids v.ids h.represents.ids;
    weak = weak_led s.heap.place v.heap z changed.leads s.tables.weak v.weak h.represents.weak;
    finals = h.represents.finals;
  }
