-- What is reached in the heap, by addresses, and what is reached in the state, by names, where no object was moved.
use Rattle.std.proofs.Common.{◌≡◌, ℕ, true, List, [], ◌∷◌, map, nat_eq, refl, sym, ap, ◌∙◌, subst, ⊎_elim, inl, inr, Option, None, Some}
use Rattle.std.specs.Prelude.{is_some}
use Rattle.std.specs.Option.{unwrap_or}
use Rattle.std.specs.List.{flat_map}
use Rattle.std.specs.Set.{is_member}
use Rattle.std.specs.FinMap.{get, empty}
use Rattle.std.proofs.Math.ListN.{length-map}
use Rattle.std.proofs.lemmas.Bool.{and_parts, and_from, eqb-true, eq-eqb, or_cases, or_left, or_right, false≢true}
use Rattle.std.proofs.lemmas.Simd.{map-map}
use Rattle.space_model.specs.declared.value.Value.{Value}
use Rattle.space_model.specs.declared.value.Value.TheVariants.{Nil, Small, Name}
use Rattle.space_model.specs.Counts.{CountIs}
use Rattle.space_model.specs.Graph.{Item, item_of, names_of, children, IsChild}
use Rattle.space_model.specs.Operands.{value_word}
use Rattle.space_model.specs.Reach.{IsStart, Reach}
use Rattle.space_model.specs.Roots.{Root, root_names}
use Rattle.space_model.specs.State.{State}
use Rattle.space_model.proofs.MapLaws.{some_get}
use Rattle.space_model.proofs.Members.{member_left, member_right, member_cases}
use Rattle.space_model.proofs.Reaching.{IsReached-start, IsReached-closed, IsReached-least}
use Rattle.space_heap.specs.Objects.{is_object, object_of}
use Rattle.space_heap.proofs.NumberLists.{IsDistinct-map}
use Rattle.space_roots.specs.WordRoots.{root_words}
use Rattle.space_tracing.specs.Graph.{IsLive}
use Rattle.space_tracing.specs.Graph as heap
use Rattle.space_tracing.specs.Scans.{fields_of}
use Rattle.space_collector.specs.GoneNames.{name_at}
use Rattle.space_engine.specs.Stands.{Holds}
use Rattle.space_engine.specs.Views.{View}
use Rattle.space_engine.proofs.FieldWords.{nothing_at_zero, nothing_at_odd}
use Rattle.space_engine.proofs.ResolvedRoots.{resolved_roots-unmoved}
use Rattle.space_engine.proofs.Resolving.{none_moved}
use Rattle.space_engine.proofs.StoredWords.{stored_words-fresh}
use Rattle.space_engine.proofs.Outcomes.{some_same}

-- lists of names, unfolded

children_are : (graph : List Item) (name : ℕ) → children graph name ≡ flat_map names_of (item_of graph name).values
unfolding children
children_are graph name = refl

root_names_are : (roots : List Root) → root_names roots ≡ flat_map (λ (root : Root). names_of root.1) roots
unfolding root_names
root_names_are roots = refl

-- the members of a list of values of a function

pub member_map : (f : ℕ → ℕ) (xs : List ℕ) (x : ℕ) → is_member nat_eq xs x ≡ true → is_member nat_eq (map f xs) (f x) ≡ true
member_map f [] x m = absurd (false≢true m)
member_map f (y ∷ ys) x m = ⊎_elim
    (λ e. or_left (nat_eq (f x) (f y)) _ (eq-eqb (f x) (f y) (ap f (eqb-true x y e))))
    (λ r. or_right (nat_eq (f x) (f y)) _ (member_map f ys x r))
    (or_cases _ _ m)

pub member_unmap : (f : ℕ → ℕ) (xs : List ℕ) (q : ℕ) → is_member nat_eq (map f xs) q ≡ true → (x : ℕ) × (is_member nat_eq xs x ≡ true) × (q ≡ f x)
member_unmap f [] q m = absurd (false≢true m)
member_unmap f (y ∷ ys) q m = ⊎_elim
    (λ e. (y, or_left (nat_eq y y) _ (eq-eqb y y refl), eqb-true q (f y) e))
    (λ r. let u = member_unmap f ys q r in (u.0, or_right (nat_eq u.0 y) _ u.1, u.2))
    (or_cases _ _ m)

module _ (v : View) (s : State) (h : Holds v s) (unmoved : s.heap.left ≡ empty) (fresh : s.collector.stale ≡ []) where
  abbrev IsAt : ℕ → ℕ → Type 0
  IsAt name address = get s.heap.place name ≡ Some address

  -- the name of the object at the address of a name
  named : (name address : ℕ) → IsAt name address → (object_of v.heap address).name ≡ name
  named name address at = (h.represents.heap.objects.is name address at).named

  present : (name address : ℕ) → IsAt name address → is_object v.heap address ≡ true
  present name address at = h.represents.heap.objects.stands name address at

  -- the value whose word is the address of an object is its name
  value_at : (value : Value) (address : ℕ) → is_object v.heap address ≡ true → address ≡ value_word s.heap.place value →
      (name : ℕ) × (is_member nat_eq (names_of value) name ≡ true) × IsAt name address
  value_at Nil address is e = absurd (false≢true (sym (ap (is_object v.heap) e ∙ nothing_at_zero v s h) ∙ is))
  value_at (Small number) address is e = absurd (false≢true (sym (ap (is_object v.heap) e ∙ nothing_at_odd v s h number) ∙ is))
  value_at (Name name) address is e = (name, or_left _ _ (eq-eqb name name refl), placed_at (get s.heap.place name) e)
    where
      placed_at : (o : Option ℕ) → address ≡ unwrap_or o 0 → o ≡ Some address
      placed_at None e = absurd (false≢true (sym (ap (is_object v.heap) e ∙ nothing_at_zero v s h) ∙ is))
      placed_at (Some a) e = ap Some (sym e)

  -- the word of a value that is a name is its address
  word_at : (value : Value) (name address : ℕ) → is_member nat_eq (names_of value) name ≡ true → IsAt name address → address ≡ value_word s.heap.place value
  word_at Nil name address m at = absurd (false≢true m)
  word_at (Small number) name address m at = absurd (false≢true m)
  word_at (Name other) name address m at = ⊎_elim
      (λ e. ap (λ (o : Option ℕ). unwrap_or o 0) (sym at ∙ ap (get s.heap.place) (eqb-true name other e)))
      (λ f. absurd (false≢true f))
      (or_cases _ _ m)

  -- of anything that has a value, as roots and fields
  module _ {X : Type 0} (value_of : X → Value) where
    -- an object whose address is among the words, and its name among the names
    held_by : (xs : List X) (address : ℕ) → is_object v.heap address ≡ true →
        is_member nat_eq (map (λ x. value_word s.heap.place (value_of x)) xs) address ≡ true →
        (name : ℕ) × (is_member nat_eq (flat_map (λ x. names_of (value_of x)) xs) name ≡ true) × IsAt name address
    held_by [] address is m = absurd (false≢true m)
    held_by (x ∷ xs) address is m = ⊎_elim
        (λ e. let r = value_at (value_of x) address is (eqb-true address (value_word s.heap.place (value_of x)) e) in
        (r.0, member_left (names_of (value_of x)) _ r.0 r.1, r.2))
        (λ t. let r = held_by xs address is t in (r.0, member_right (names_of (value_of x)) _ r.0 r.1, r.2))
        (or_cases _ _ m)

    -- a name among the names, and its address among the words
    holds : (xs : List X) (name address : ℕ) → IsAt name address → is_member nat_eq (flat_map (λ x. names_of (value_of x)) xs) name ≡ true →
        is_member nat_eq (map (λ x. value_word s.heap.place (value_of x)) xs) address ≡ true
    holds [] name address at m = absurd (false≢true m)
    holds (x ∷ xs) name address at m = ⊎_elim
        (λ k. or_left _ _ (eq-eqb address (value_word s.heap.place (value_of x)) (word_at (value_of x) name address k at)))
        (λ t. or_right (nat_eq address (value_word s.heap.place (value_of x))) _ (holds xs name address at t))
        (member_cases (names_of (value_of x)) (flat_map (λ x. names_of (value_of x)) xs) name m)

  -- the words of roots and fields are those of their values

  words_of_roots : root_words v.roots ≡ map (λ (root : Root). value_word s.heap.place root.1) s.roots
  words_of_roots = ap root_words (sym (resolved_roots-unmoved v.heap (none_moved v s h unmoved) v.roots) ∙ h.represents.roots)
      ∙ map-map (λ (root : List ℕ × ℕ). root.1) (λ (root : Root). (root.0, value_word s.heap.place root.1)) s.roots

  words_of_fields : (name address : ℕ) → IsAt name address →
      fields_of v.heap address ≡ map (λ value. value_word s.heap.place value) (item_of s.graph name).values
  words_of_fields name address at =
      (h.represents.heap.objects.is name address at).fields
      ∙ stored_words-fresh s.heap.place s.heap.left s.collector.stale name fresh (item_of s.graph name).values

  -- a start or a child by name is one by address

  pub start_live : (name : ℕ) → IsStart s name → (address : ℕ) × IsAt name address × heap.IsStart v.heap (root_words v.roots) v.stack address
  start_live name start = ⊎_elim
      (λ m.
      let at = some_get (get s.heap.place name) (h.sound.names.roots_present name m) in (
        at.0,
        at.1,
        inl (
          present name at.0 at.1,
          ap (λ words. is_member nat_eq words at.0) words_of_roots
              ∙ holds (λ (root : Root). root.1) s.roots name at.0 at.1 (ap (λ names. is_member nat_eq names name) (sym (root_names_are s.roots)) ∙ m),
        ),
      ))
      (λ (word, m, at). (word, at, inr (present name word at, ap (λ words. is_member nat_eq words word) (sym h.represents.stack) ∙ m)))
      start

  pub child_live : (parent name address : ℕ) → IsAt parent address → IsChild s.graph parent name →
      (other : ℕ) × IsAt name other × heap.IsChild v.heap address other
  child_live parent name address from child =
      let to = some_get (get s.heap.place name) (h.sound.names.children_present parent name (ap is_some from) child) in (
        to.0,
        to.1,
        and_from _ _ (present name to.0 to.1)
            (ap (λ words. is_member nat_eq words to.0) (words_of_fields parent address from)
            ∙ holds (λ (value : Value). value) (item_of s.graph parent).values name to.0 to.1
            (ap (λ names. is_member nat_eq names name) (sym (children_are s.graph parent)) ∙ child)),
      )

  -- a reached name has a place, and is reached there
  abbrev IsLiveName : ℕ → Type 0
  IsLiveName name = (address : ℕ) × IsAt name address × IsLive v.heap (root_words v.roots) v.stack address

  reached_live : (name : ℕ) → Reach s name → IsLiveName name
  reached_live = IsReached-least (IsChild s.graph) (IsStart s) IsLiveName
      (λ parent name (address, at, live) child.
      let r = child_live parent name address at child in
      (r.0, r.1, IsReached-closed (heap.IsChild v.heap) (heap.IsStart v.heap (root_words v.roots) v.stack) address r.0 live r.2))
      (λ name start.
      let r = start_live name start in
      (r.0, r.1, IsReached-start (heap.IsChild v.heap) (heap.IsStart v.heap (root_words v.roots) v.stack) r.0 r.2))

  -- the object at the place of a reached name is reached
  pub live_from_reached : (name address : ℕ) → get s.heap.place name ≡ Some address → Reach s name → IsLive v.heap (root_words v.roots) v.stack address
  live_from_reached name address at reached =
      let r = reached_live name reached in
      subst (IsLive v.heap (root_words v.roots) v.stack) (some_same r.0 address (sym r.1 ∙ at)) r.2

  -- a start or a child by address is one by name

  pub start_reached : (address : ℕ) → heap.IsStart v.heap (root_words v.roots) v.stack address → (name : ℕ) × IsAt name address × IsStart s name
  start_reached address start = ⊎_elim
      (λ (is, m).
      let r = held_by (λ (root : Root). root.1) s.roots address is (ap (λ words. is_member nat_eq words address) (sym words_of_roots) ∙ m) in
      (r.0, r.2, inl (ap (λ names. is_member nat_eq names r.0) (root_names_are s.roots) ∙ r.1)))
      (λ (is, m).
      let at = h.represents.heap.objects.only address is in
      ((object_of v.heap address).name, at, inr (address, ap (λ words. is_member nat_eq words address) h.represents.stack ∙ m, at)))
      start

  pub child_reached : (address other name : ℕ) → IsAt name address → heap.IsChild v.heap address other → (its : ℕ) × IsAt its other × IsChild s.graph name its
  child_reached address other name at child =
      let c = and_parts _ _ child in
      let r = held_by (λ (value : Value). value) (item_of s.graph name).values other c.0
      (ap (λ words. is_member nat_eq words other) (sym (words_of_fields name address at)) ∙ c.1) in
      (r.0, r.2, ap (λ names. is_member nat_eq names r.0) (children_are s.graph name) ∙ r.1)

  -- a reached object has a name, which is reached
  abbrev IsReachedObject : ℕ → Type 0
  IsReachedObject address = (name : ℕ) × IsAt name address × Reach s name

  live_reached : (address : ℕ) → IsLive v.heap (root_words v.roots) v.stack address → IsReachedObject address
  live_reached = IsReached-least (heap.IsChild v.heap) (heap.IsStart v.heap (root_words v.roots) v.stack) IsReachedObject
      (λ address other (name, at, reached) child.
      let r = child_reached address other name at child in
      (r.0, r.1, IsReached-closed (IsChild s.graph) (IsStart s) name r.0 reached r.2))
      (λ address start.
      let r = start_reached address start in
      (r.0, r.1, IsReached-start (IsChild s.graph) (IsStart s) r.0 r.2))

  -- what is reached in the heap is an object, and its name is reached
  pub reached_from_live : (address : ℕ) → IsLive v.heap (root_words v.roots) v.stack address →
      (is_object v.heap address ≡ true) × Reach s (object_of v.heap address).name
  reached_from_live address live =
      let r = live_reached address live in
      (present r.0 address r.1, subst (Reach s) (sym (named r.0 address r.1)) r.2)

  -- as many names are reached as addresses
  pub reached_count : (k : ℕ) → CountIs (IsLive v.heap (root_words v.roots) v.stack) k → CountIs (Reach s) k
  reached_count k count = record {
    names = map (name_at v.heap) count.names;
    once = IsDistinct-map (name_at v.heap) count.names
        (λ a b m n same.
        some_same a b (
        sym (h.represents.heap.objects.only a (reached_from_live a ((count.are a).0 m)).0)
        ∙ ap (get s.heap.place) same
        ∙ h.represents.heap.objects.only b (reached_from_live b ((count.are b).0 n)).0))
        count.once;
    are = λ name. (
      λ m.
          let u = member_unmap (name_at v.heap) count.names name m in
          subst (Reach s) (sym u.2) (reached_from_live u.0 ((count.are u.0).0 u.1)).1,
      λ reached.
          let r = reached_live name reached in
          subst (λ n. is_member nat_eq (map (name_at v.heap) count.names) n ≡ true) (named name r.0 r.1)
          (member_map (name_at v.heap) count.names r.0 ((count.are r.0).1 r.2)),
    );
    long = length-map count.names (name_at v.heap) ∙ count.long;
  }
