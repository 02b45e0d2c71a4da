-- The children of names after a field was written, and which names have a child that isn't old then.
use Rattle.std.proofs.Common.{◌≡◌, ◌≢◌, ◌⊎◌, ℕ, zero, suc, ◌<◌, ◌≤◌, Bool, true, false, not, List, [], ◌∷◌, length, set, nat_eq, refl, sym, ap, ◌∙◌, arith, ⊎_elim, inl, inr}
use Rattle.std.specs.Prelude.{is_some}
use Rattle.std.specs.List.{flat_map, list_any}
use Rattle.std.specs.Ordering.{nat_cmp}
use Rattle.std.specs.Set.{is_member}
use Rattle.std.specs.FinMap.{FinMap, get, keys}
use Rattle.std.proofs.lemmas.Bool.{and_from, or_cases, or_left, or_right, eq-eqb, eqb-true, false≢true}
use Rattle.space_model.specs.declared.value.Value.{Value}
use Rattle.space_model.specs.declared.value.Value.TheVariants.{Name}
use Rattle.space_model.specs.Ages.{is_protected_guard, is_protected, is_old_in}
use Rattle.space_model.specs.Graph.{Item, item_of, with_item, names_of, children, IsChild}
use Rattle.space_model.specs.Moments.{mixed_in}
use Rattle.space_model.specs.Pieces.{item_written}
use Rattle.space_model.proofs.Members.{member_cases, member_left, member_right, member_filter}
use Rattle.space_model.proofs.NamesKept.{item_of-with_item}
use Rattle.space_model.proofs.ReachedLaws.{member-keys}

-- the names of values of which one was written
names_after : (values : List Value) (index : ℕ) (value : Value) (n : ℕ) → is_member nat_eq (flat_map names_of (set values index value)) n ≡ true →
    (is_member nat_eq (flat_map names_of values) n ≡ true) ⊎ (is_member nat_eq (names_of value) n ≡ true)
names_after [] index value n m = inl m
names_after (v ∷ values) zero value n m =
    ⊎_elim (λ a. inr a) (λ b. inl (member_right (names_of v) _ n b)) (member_cases (names_of value) (flat_map names_of values) n m)
names_after (v ∷ values) (suc index) value n m = ⊎_elim
    (λ a. inl (member_left (names_of v) _ n a))
    (λ b. ⊎_elim (λ c. inl (member_right (names_of v) _ n c)) (λ c. inr c) (names_after values index value n b))
    (member_cases (names_of v) (flat_map names_of (set values index value)) n m)

name_written : (values : List Value) (index n : ℕ) → index < length values → is_member nat_eq (flat_map names_of (set values index (Name n))) n ≡ true
name_written [] index n lt = absurd (omega arith)
name_written (v ∷ values) zero n lt = member_left (names_of (Name n)) (flat_map names_of values) n (or_left (nat_eq n n) false (eq-eqb n n refl))
name_written (v ∷ values) (suc index) n lt =
    member_right (names_of v) (flat_map names_of (set values index (Name n))) n (name_written values index n (omega arith))

module _ (graph : List Item) (name index : ℕ) (value : Value) (some : 0 < name) (old : name ≤ length graph) where
  abbrev after : List Item
  after = with_item graph name (item_written (item_of graph name) index value)

  item_cases : (q : ℕ) → 0 < q →
      ((q ≡ name) × (item_of after q ≡ item_written (item_of graph name) index value)) ⊎ ((q ≢ name) × (item_of after q ≡ item_of graph q))
  item_cases q some_q = item_of-with_item graph name (item_written (item_of graph name) index value) q some old some_q

  pub written_guards : (q : ℕ) → 0 < q → (item_of after q).guard ≡ (item_of graph q).guard
  written_guards q some_q = ⊎_elim
      (λ (same, e). ap (λ (item : Item). item.guard) e ∙ ap (λ n. (item_of graph n).guard) (sym same))
      (λ (other, e). ap (λ (item : Item). item.guard) e)
      (item_cases q some_q)

  pub written_protects : (q : ℕ) → 0 < q → is_protected after q ≡ is_protected graph q
  written_protects q some_q = ap is_protected_guard (written_guards q some_q)

  -- a child is one from before, or what the name got
  pub written_children : (parent child : ℕ) → 0 < parent → IsChild after parent child →
      IsChild graph parent child ⊎ ((parent ≡ name) × (is_member nat_eq (names_of value) child ≡ true))
  unfolding children
  written_children parent child some_parent c = ⊎_elim
      (λ (same, e). ⊎_elim
      (λ a. inl (ap (λ n. is_member nat_eq (flat_map names_of (item_of graph n).values) child) same ∙ a))
      (λ b. inr (same, b))
      (names_after (item_of graph name).values index value child (sym (ap (λ (item : Item). is_member nat_eq (flat_map names_of item.values) child) e) ∙ c)))
      (λ (other, e). inl (sym (ap (λ (item : Item). is_member nat_eq (flat_map names_of item.values) child) e) ∙ c))
      (item_cases parent some_parent)

-- the name that a field got is a child
pub written_child : (graph : List Item) (name index child : ℕ) → 0 < name → name ≤ length graph → index < length (item_of graph name).values →
    IsChild (with_item graph name (item_written (item_of graph name) index (Name child))) name child
unfolding children
written_child graph name index child some old lt = ⊎_elim
    (λ (same, e). ap (λ (item : Item). is_member nat_eq (flat_map names_of item.values) child) e ∙ name_written (item_of graph name).values index child lt)
    (λ (other, e). absurd (other refl))
    (item_of-with_item graph name (item_written (item_of graph name) index (Name child)) name some old some)

any_member : (test : ℕ → Bool) (xs : List ℕ) (n : ℕ) → is_member nat_eq xs n ≡ true → test n ≡ true → list_any test xs ≡ true
any_member test [] n m e = absurd (false≢true m)
any_member test (x ∷ xs) n m e = ⊎_elim
    (λ same. or_left (test x) (list_any test xs) (ap test (sym (eqb-true n x same)) ∙ e))
    (λ later. or_right (test x) (list_any test xs) (any_member test xs n later e))
    (or_cases _ _ m)

-- a present name with a child that isn't old is noted
pub mixed_member : (graph : List Item) (place : FinMap nat_cmp ℕ) (outlived : List ℕ) (name child : ℕ) → is_some (get place name) ≡ true →
    IsChild graph name child → is_old_in graph place outlived child ≡ false → is_member nat_eq (mixed_in graph place outlived) name ≡ true
unfolding mixed_in
mixed_member graph place outlived name child present is young =
    member_filter (λ n. list_any (λ c. not (is_old_in graph place outlived c)) (children graph n)) (keys place) name
    ∙ and_from _ _ (member-keys place name ∙ present)
    (any_member (λ c. not (is_old_in graph place outlived c)) (children graph name) child is (ap not young))
