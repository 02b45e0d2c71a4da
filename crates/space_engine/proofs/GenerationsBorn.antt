-- The part Generations after an object was allocated: it has age 0, no mark and no child, and every other one is as it was.
use Rattle.std.proofs.Common.{◌≡◌, ◌≢◌, ◌⊎◌, ℕ, zero, suc, ◌+◌, ◌-◌, ◌<◌, ◌≤◌, Bool, true, false, min, if◌then◌else◌, List, [], ◌∷◌, ◌++◌, length, get_or, nat_eq, refl, sym, ap, ◌∙◌, subst, arith, Option, None, Some, ⊎_elim}
use Rattle.std.specs.Prelude.{is_some, replicate}
use Rattle.std.specs.List.{flat_map}
use Rattle.std.specs.Ordering.{nat_cmp}
use Rattle.std.specs.Set.{is_member}
use Rattle.std.specs.FinMap.{FinMap, get}
use Rattle.std.proofs.Math.ListN.{get_or-append}
use Rattle.std.proofs.Math.Seq.{get_or-append_seam}
use Rattle.std.proofs.lemmas.Bool.{cases_eq, false≢true}
use Rattle.space_model.specs.declared.object.Guard.{Guard}
use Rattle.space_model.specs.declared.object.Style.{Style}
use Rattle.space_model.specs.declared.value.Value.TheVariants.{Nil}
use Rattle.space_model.specs.Ages.{is_protected_guard, is_protected, outlived_by}
use Rattle.space_model.specs.Graph.{Item, names_of, children, IsChild}
use Rattle.space_model.specs.Pieces.{new_item}
use Rattle.space_model.specs.State.{Collector}
use Rattle.space_model.proofs.NamesKept.{children-push}
use Rattle.space_model.proofs.SlotLaws.{item_of-push, item_of-new}
use Rattle.space_heap.specs.Slots.{ObjectView, new_object}
use Rattle.space_heap.specs.HeapView.{HeapView}
use Rattle.space_heap.specs.Objects.{object_of}
use Rattle.space_heap.specs.Generations.{is_old, is_aged}
use Rattle.space_engine.specs.Generations.{age_of, HasGenerations}

-- the verdicts that a name outlived, by its place in the list
outlived-at : (outlived : List ℕ) (name : ℕ) → 0 < name → outlived_by outlived name ≡ get_or outlived (name - 1) 0
outlived-at outlived zero some = absurd (omega arith)
outlived-at outlived (suc index) some = ap (λ i. get_or outlived i 0) (let e : index ≡ suc index - 1 = omega arith in e)

outlived-push : (outlived : List ℕ) (name : ℕ) → 0 < name → name ≤ length outlived → outlived_by (outlived ++ 0 ∷ []) name ≡ outlived_by outlived name
outlived-push outlived name some born =
    outlived-at (outlived ++ 0 ∷ []) name some ∙ get_or-append outlived (0 ∷ []) 0 (name - 1) (omega arith) ∙ sym (outlived-at outlived name some)

outlived-new : (outlived : List ℕ) → outlived_by (outlived ++ 0 ∷ []) (length outlived + 1) ≡ 0
outlived-new outlived =
    let e : (length outlived + 1) - 1 ≡ length outlived = omega arith in
    outlived-at (outlived ++ 0 ∷ []) (length outlived + 1) (omega arith)
    ∙ ap (λ i. get_or (outlived ++ 0 ∷ []) i 0) e ∙ get_or-append_seam outlived 0 [] 0

no_age : (b : Bool) (n : ℕ) → n ≡ 0 → 0 ≡ (if b then min n 3 else 0)
no_age true n e = sym (ap (λ n. min n 3) e)
no_age false n e = refl

no_names : (fields : ℕ) → flat_map names_of (replicate fields Nil) ≡ []
no_names zero = refl
no_names (suc fields) = no_names fields

no_children : (graph : List Item) (guard : Guard) (style : Style) (fields : ℕ) → children (graph ++ new_item guard style fields ∷ []) (length graph + 1) ≡ []
unfolding children
no_children graph guard style fields =
    ap (λ (item : Item). flat_map names_of item.values) (item_of-new graph (new_item guard style fields)) ∙ no_names fields

-- the maps and lists before, and the new name, where it stands and what is there
module _ (graph : List Item) (place place' : FinMap nat_cmp ℕ) (collector : Collector) (mixed mixed' : List ℕ) (heap heap' : HeapView)
    (g : HasGenerations graph place collector mixed heap) (fields : ℕ) (guard : Guard) (style : Style) (address : ℕ)
    (long : length collector.outlived ≡ length graph)
    (allocated : (n a : ℕ) → get place n ≡ Some a → (0 < n) × (n ≤ length graph))
    (kept_there : (n : ℕ) → is_member nat_eq collector.kept n ≡ true → is_some (get place n) ≡ true)
    (children_there : (parent n : ℕ) → is_some (get place parent) ≡ true → IsChild graph parent n → is_some (get place n) ≡ true)
    (more : (n : ℕ) → is_member nat_eq mixed n ≡ true → is_member nat_eq mixed' n ≡ true)
    (new_at : get place' (length graph + 1) ≡ Some address)
    (others_at : (n : ℕ) → n ≢ length graph + 1 → get place' n ≡ get place n)
    (new_is : object_of heap' address ≡ new_object (length graph + 1) fields guard style)
    (others_are : (n a : ℕ) → get place n ≡ Some a → object_of heap' a ≡ object_of heap a) where
  abbrev next : ℕ
  next = length graph + 1

  abbrev graph' : List Item
  graph' = graph ++ new_item guard style fields ∷ []

  abbrev outlived' : List ℕ
  outlived' = collector.outlived ++ 0 ∷ []

  abbrev c' : Collector
  c' = record collector { outlived = outlived' }

  -- what is said of the new name and its object, and of each other one, is said of all
  by_name : (P : ℕ → ObjectView → Type 0) → P next (new_object next fields guard style) →
      ((n a : ℕ) → get place n ≡ Some a → P n (object_of heap a)) → (n a : ℕ) → get place' n ≡ Some a → P n (object_of heap' a)
  by_name P new old n a at = ⊎_elim
      (λ (same : n ≡ next).
      let e : Some a ≡ Some address = sym at ∙ ap (get place') same ∙ new_at in
      let here : a ≡ address = cc in
      subst (λ (o : ObjectView). P n o) (sym (ap (object_of heap') here ∙ new_is))
      (subst (λ (n : ℕ). P n (new_object next fields guard style)) (sym same) new))
      (λ (other : n ≢ next).
      let was : get place n ≡ Some a = sym (others_at n other) ∙ at in
      subst (λ (o : ObjectView). P n o) (sym (others_are n a was)) (old n a was))
      (cases_eq n next)

  protects : (n a : ℕ) → get place n ≡ Some a → is_protected graph' n ≡ is_protected graph n
  protects n a at =
      let b = allocated n a at in
      ap (λ (item : Item). is_protected_guard item.guard) (item_of-push graph (new_item guard style fields) n b.0 b.1)

  outlived_same : (n a : ℕ) → get place n ≡ Some a → outlived_by outlived' n ≡ outlived_by collector.outlived n
  outlived_same n a at = let b = allocated n a at in let e = long in outlived-push collector.outlived n b.0 (omega arith)

  outlived_none : outlived_by outlived' next ≡ 0
  outlived_none = ap (λ k. outlived_by outlived' (k + 1)) (sym long) ∙ outlived-new collector.outlived

  age_same : (n a : ℕ) → get place n ≡ Some a → age_of graph' outlived' n ≡ age_of graph collector.outlived n
  age_same n a at =
      ap (λ (b : Bool). if b then min (outlived_by outlived' n) 3 else 0) (protects n a at)
      ∙ ap (λ (k : ℕ). if is_protected graph n then min k 3 else 0) (outlived_same n a at)

  -- nothing stood for the next name
  next_absent : (o : Option ℕ) → get place next ≡ o → is_some o ≡ true → ⊥
  next_absent (Some a) at p = let b = allocated next a at in let most = b.1 in omega arith
  next_absent None at p = false≢true p

  not_kept : is_member nat_eq collector.kept next ≡ true → ⊥
  not_kept m = next_absent (get place next) refl (kept_there next m)

  -- the new name has no child, and is no child of a name that was there
  old_child : (parent child a c : ℕ) → get place' parent ≡ Some a → get place' child ≡ Some c → IsChild graph' parent child →
      (get place parent ≡ Some a) × (get place child ≡ Some c) × IsChild graph parent child
  old_child parent child a c at there is = ⊎_elim
      (λ (same : parent ≡ next).
      absurd (false≢true (sym (ap (λ xs. is_member nat_eq xs child) (ap (children graph') same ∙ no_children graph guard style fields)) ∙ is)))
      (λ (other : parent ≢ next).
      let was : get place parent ≡ Some a = sym (others_at parent other) ∙ at in
      let b = allocated parent a was in
      let held : IsChild graph parent child =
      sym (ap (λ xs. is_member nat_eq xs child) (children-push graph (new_item guard style fields) parent b.0 b.1)) ∙ is in
      let present : is_some (get place child) ≡ true = children_there parent child (ap is_some was) held in
      let elder : child ≢ next = λ same. next_absent (get place next) refl (ap (λ n. is_some (get place n)) (sym same) ∙ present) in
      (was, sym (others_at child elder) ∙ there, held))
      (cases_eq parent next)

  -- a parent and its child were there: they pass a test where they did
  children_born : (test : ObjectView → Bool) (parent child a c : ℕ) → get place' parent ≡ Some a → get place' child ≡ Some c →
      IsChild graph' parent child → test (object_of heap' a) ≡ true → (object_of heap' a).remembered ≡ false →
      (get place parent ≡ Some a → get place child ≡ Some c → IsChild graph parent child → object_of heap' a ≡ object_of heap a →
      test (object_of heap a) ≡ true → (object_of heap a).remembered ≡ false → (test (object_of heap c) ≡ true) ⊎ ((object_of heap c).kept ≡ true)) →
      (test (object_of heap' c) ≡ true) ⊎ ((object_of heap' c).kept ≡ true)
  children_born test parent child a c at there is passes out before =
      let was = old_child parent child a c at there is in
      let p : object_of heap' a ≡ object_of heap a = others_are parent a was.0 in
      let q : object_of heap' c ≡ object_of heap c = others_are child c was.1 in
      subst (λ (o : ObjectView). (test o ≡ true) ⊎ (o.kept ≡ true)) (sym q)
      (before was.0 was.1 was.2 p (sym (ap test p) ∙ passes) (sym (ap (λ (o : ObjectView). o.remembered) p) ∙ out))

  pub generations_born : HasGenerations graph' place' c' mixed' heap'
  generations_born = record {
    ages = by_name (λ n o. o.age ≡ age_of graph' outlived' n) (no_age (is_protected graph' next) (outlived_by outlived' next) outlived_none)
        (λ n a at. g.ages n a at ∙ sym (age_same n a at));
    kept = record {
      certain = by_name (λ n o. is_member nat_eq collector.kept n ≡ true → o.kept ≡ true) (λ m. absurd (not_kept m)) g.kept.certain;
      only = λ vague. by_name (λ n o. o.kept ≡ true → is_member nat_eq collector.kept n ≡ true) (λ k. absurd (false≢true k)) (g.kept.only vague);
      unprotected = by_name (λ n o. o.kept ≡ true → is_protected graph' n ≡ false) (λ k. absurd (false≢true k))
          (λ n a at k. protects n a at ∙ g.kept.unprotected n a at k);
      outlived = λ rests. by_name (λ n o. o.kept ≡ true → 1 ≤ outlived_by outlived' n) (λ k. absurd (false≢true k))
          (λ n a at k. subst (λ (m : ℕ). 1 ≤ m) (sym (outlived_same n a at)) (g.kept.outlived rests n a at k));
    };
    remembered = record {
      aged = by_name (λ n o. o.remembered ≡ true → is_aged o ≡ true) (λ r. absurd (false≢true r)) g.remembered.aged;
      mixed_since = by_name (λ n o. o.remembered ≡ true → is_member nat_eq mixed' n ≡ true) (λ r. absurd (false≢true r))
          (λ n a at r. more n (g.remembered.mixed_since n a at r));
    };
    old_children = λ rests parent child a c at there is old out.
        children_born is_old parent child a c at there is old out (λ pat cat was same. g.old_children rests parent child a c pat cat was);
    aged_children = λ marking parent child a c at there is scanned aged out.
        children_born is_aged parent child a c at there is aged out
        (λ pat cat was same. g.aged_children marking parent child a c pat cat was (sym (ap (λ (o : ObjectView). o.colour) same) ∙ scanned));
  }
