-- What is present has present children, and roots hold what is present.
use Rattle.std.proofs.Common.{◌≡◌, ◌≢◌, ◌⊎◌, ℕ, zero, suc, ◌+◌, ◌-◌, ◌<◌, ◌≤◌, true, List, [], ◌∷◌, ◌++◌, length, nat_eq, get_or, set, refl, sym, ap, ◌∙◌, arith, ⊎_elim, inl, inr}
use Rattle.std.specs.Prelude.{is_some, replicate, slice_get}
use Rattle.std.specs.List.{flat_map}
use Rattle.std.specs.Str.{bytes_eq}
use Rattle.std.specs.Set.{is_member}
use Rattle.std.specs.Ordering.{nat_cmp}
use Rattle.std.specs.FinMap.{FinMap, get, insert}
use Rattle.std.proofs.lemmas.Bool.{cases_Bool, cases_eq, false≢true, and_parts}
use Rattle.std.proofs.lemmas.Bool.Decides.{nat_tests}
use Rattle.std.proofs.lemmas.List.{length-set, get_or-set_same, get_or-set_other}
use Rattle.space_model.specs.declared.object.Guard.{Guard}
use Rattle.space_model.specs.declared.object.Style.{Style}
use Rattle.space_model.specs.declared.value.Value.{Value}
use Rattle.space_model.specs.declared.value.Value.TheVariants.{Nil, Name}
use Rattle.space_model.specs.Ages.{is_protected, is_protected_guard}
use Rattle.space_model.specs.Graph.{Item, no_item, item_of, with_item, names_of, children, IsChild}
use Rattle.space_model.specs.Pieces.{new_item, born, item_written}
use Rattle.space_model.specs.Roots.{Root, root_names, with_root, without_root}
use Rattle.space_model.specs.Sound.{AreSlots, SoundNames, SoundStale, SoundKept}
use Rattle.space_model.specs.State.{State}
use Rattle.space_model.specs.StoredWords.{is_stale, without_pair}
use Rattle.space_model.proofs.MapLaws.{get-insert_name, present-insert, some_get}
use Rattle.space_model.proofs.Members.{member_cases, member_left, member_right}
use Rattle.space_model.proofs.SlotLaws.{item_of-at, with_item-at, length-with_item, item_of-push, item_of-new}
use Rattle.space_model.proofs.StoredWordLaws.{stale-without_pair}

no_names : (fields : ℕ) → flat_map names_of (replicate fields Nil) ≡ []
no_names zero = refl
no_names (suc fields) = no_names fields

children-new : (graph : List Item) (guard : Guard) (style : Style) (fields : ℕ) → children (graph ++ new_item guard style fields ∷ []) (length graph + 1) ≡ []
unfolding children
children-new graph guard style fields = ap (λ (item : Item). flat_map names_of item.values) (item_of-new graph (new_item guard style fields)) ∙ no_names fields

pub children-push : (graph : List Item) (item : Item) (name : ℕ) → 0 < name → name ≤ length graph → children (graph ++ item ∷ []) name ≡ children graph name
unfolding children
children-push graph item name some born = ap (λ (item : Item). flat_map names_of item.values) (item_of-push graph item name some born)

-- the roots hold what they held, or what was written
root_names-with_root : (roots : List Root) (root : List ℕ) (value : Value) (n : ℕ) → is_member nat_eq (root_names (with_root roots root value)) n ≡ true →
    (is_member nat_eq (names_of value) n ≡ true) ⊎ (is_member nat_eq (root_names roots) n ≡ true)
unfolding root_names
root_names-with_root [] root value n m = member_cases (names_of value) [] n m
root_names-with_root (r ∷ roots) root value n m = ⊎_elim
    (λ t. ⊎_elim (λ a. inl a) (λ b. inr (after b)) (member_cases (names_of value) (root_names roots) n (rw t at m)))
    (λ f. ⊎_elim (λ a. inr (before a)) (λ b. ⊎_elim (λ c. inl c) (λ c. inr (after c)) (root_names-with_root roots root value n b))
    (member_cases (names_of r.1) (root_names (with_root roots root value)) n (rw f at m)))
    (cases_Bool (bytes_eq root r.0))
  where
    before : is_member nat_eq (names_of r.1) n ≡ true → is_member nat_eq (root_names (r ∷ roots)) n ≡ true
    before a = member_left (names_of r.1) (root_names roots) n a

    after : is_member nat_eq (root_names roots) n ≡ true → is_member nat_eq (root_names (r ∷ roots)) n ≡ true
    after a = member_right (names_of r.1) (root_names roots) n a

-- the roots that are left hold nothing else
root_names-without_root : (roots : List Root) (root : List ℕ) (n : ℕ) → is_member nat_eq (root_names (without_root roots root)) n ≡ true →
    is_member nat_eq (root_names roots) n ≡ true
unfolding root_names
root_names-without_root [] root n m = m
root_names-without_root (r ∷ roots) root n m = ⊎_elim
    (λ t. member_right (names_of r.1) (root_names roots) n (rw t at m))
    (λ f. ⊎_elim
    (λ a. member_left (names_of r.1) (root_names roots) n a)
    (λ b. member_right (names_of r.1) (root_names roots) n (root_names-without_root roots root n b))
    (member_cases (names_of r.1) (root_names (without_root roots root)) n (rw f at m)))
    (cases_Bool (bytes_eq root r.0))

-- a root was written, with a value that is present
pub SoundNames-root_written : (graph : List Item) (roots : List Root) (place : FinMap nat_cmp ℕ) (root : List ℕ) (value : Value) →
    ((n : ℕ) → is_member nat_eq (names_of value) n ≡ true → is_some (get place n) ≡ true) → SoundNames graph roots place →
    SoundNames graph (with_root roots root value) place
SoundNames-root_written graph roots place root value present h = record {
  children_present = h.children_present;
  roots_present = λ n m. ⊎_elim (λ a. present n a) (λ b. h.roots_present n b) (root_names-with_root roots root value n m);
}

-- a root was taken away
pub SoundNames-root_dropped : (graph : List Item) (roots : List Root) (place : FinMap nat_cmp ℕ) (root : List ℕ) → SoundNames graph roots place →
    SoundNames graph (without_root roots root) place
SoundNames-root_dropped graph roots place root h = record {
  children_present = h.children_present;
  roots_present = λ n m. h.roots_present n (root_names-without_root roots root n m);
}

module _ (s : State) (root : List ℕ) (fields : ℕ) (guard : Guard) (style : Style) (address : ℕ) (l : AreSlots s.graph s.heap.pages s.heap.place)
    (h : SoundNames s.graph s.roots s.heap.place) where
  abbrev graph' : List Item
  graph' = s.graph ++ new_item guard style fields ∷ []

  abbrev new : ℕ
  new = length s.graph + 1

  pub SoundNames-born : SoundNames graph' (with_root s.roots root (Name new)) (insert s.heap.place new address)
  SoundNames-born = record {
    children_present = λ m n p c. ⊎_elim
        (λ same. let e : children graph' m ≡ [] = ap (children graph') same ∙ children-new s.graph guard style fields in
        absurd (false≢true (sym (ap (λ xs. is_member nat_eq xs n) e) ∙ c)))
        (λ other. let g = get-insert_name s.heap.place new address m in
        let there : is_some (get s.heap.place m) ≡ true = grind (arith, nat_tests, g, other, p) in
        let at = some_get (get s.heap.place m) there in
        let b = l.allocated m at.0 at.1 in
        present-insert s.heap.place new address n (h.children_present m n there (rw (children-push s.graph (new_item guard style fields) m b.0 b.1) at c)))
        (cases_eq m new);
    roots_present = λ n m. ⊎_elim
        (λ a. let g = get-insert_name s.heap.place new address n in grind (arith, nat_tests, g, a))
        (λ b. present-insert s.heap.place new address n (h.roots_present n b))
        (root_names-with_root s.roots root (Name new) n m);
  }

-- another item for a name
pub item_of-with_item : (graph : List Item) (name : ℕ) (item : Item) (q : ℕ) → 0 < name → name ≤ length graph → 0 < q →
    ((q ≡ name) × (item_of (with_item graph name item) q ≡ item)) ⊎ ((q ≢ name) × (item_of (with_item graph name item) q ≡ item_of graph q))
item_of-with_item graph name item q some born some_q = rw (with_item-at graph name item some) (⊎_elim
    (λ same. inl (
      same,
      item_of-at (set graph (name - 1) item) q some_q ∙ ap (λ x. get_or (set graph (name - 1) item) (x - 1) no_item) same
          ∙ get_or-set_same graph (name - 1) item no_item (omega arith),
    ))
    (λ d. inr (
      d,
      item_of-at (set graph (name - 1) item) q some_q ∙ get_or-set_other graph (name - 1) (q - 1) item no_item (λ e. d (omega arith))
          ∙ sym (item_of-at graph q some_q),
    ))
    (cases_eq q name))

slice_get-set_other : (values : List Value) (index i : ℕ) (value : Value) → i ≢ index → slice_get (set values index value) i ≡ slice_get values i
slice_get-set_other [] index i value d = refl
slice_get-set_other (v ∷ values) zero zero value d = absurd (d refl)
slice_get-set_other (v ∷ values) zero (suc i) value d = refl
slice_get-set_other (v ∷ values) (suc index) zero value d = refl
slice_get-set_other (v ∷ values) (suc index) (suc i) value d = slice_get-set_other values index i value (λ e. d (ap suc e))

names-set : (values : List Value) (index : ℕ) (value : Value) (n : ℕ) → is_member nat_eq (flat_map names_of (set values index value)) n ≡ true →
    (is_member nat_eq (flat_map names_of values) n ≡ true) ⊎ (is_member nat_eq (names_of value) n ≡ true)
names-set [] index value n m = inl m
names-set (v ∷ values) zero value n m =
    ⊎_elim (λ a. inr a) (λ b. inl (member_right (names_of v) _ n b)) (member_cases (names_of value) (flat_map names_of values) n m)
names-set (v ∷ values) (suc index) value n m = ⊎_elim
    (λ a. inl (member_left (names_of v) _ n a))
    (λ b. ⊎_elim (λ c. inl (member_right (names_of v) _ n c)) (λ c. inr c) (names-set values index value n b))
    (member_cases (names_of v) (flat_map names_of (set values index value)) n m)

-- a field of a name was written
module _ (s : State) (name index : ℕ) (value : Value) (l : AreSlots s.graph s.heap.pages s.heap.place) (some : 0 < name) (old : name ≤ length s.graph) where
  abbrev written_graph : List Item
  written_graph = with_item s.graph name (item_written (item_of s.graph name) index value)

  item_cases : (q : ℕ) → 0 < q →
      ((q ≡ name) × (item_of written_graph q ≡ item_written (item_of s.graph name) index value)) ⊎ ((q ≢ name) × (item_of written_graph q ≡ item_of s.graph q))
  item_cases q some_q = item_of-with_item s.graph name (item_written (item_of s.graph name) index value) q some old some_q

  -- a child is one from before, or what was written
  pub child_cases : (m n : ℕ) → 0 < m → IsChild written_graph m n → IsChild s.graph m n ⊎ (is_member nat_eq (names_of value) n ≡ true)
  unfolding children
  child_cases m n some_m c = ⊎_elim
      (λ (same, e). ⊎_elim
      (λ a. inl (ap (λ x. is_member nat_eq (flat_map names_of (item_of s.graph x).values) n) same ∙ a))
      (λ b. inr b)
      (names-set (item_of s.graph name).values index value n (sym (ap (λ (item : Item). is_member nat_eq (flat_map names_of item.values) n) e) ∙ c)))
      (λ (d, e). inl (sym (ap (λ (item : Item). is_member nat_eq (flat_map names_of item.values) n) e) ∙ c))
      (item_cases m some_m)

  pub written_shape : (q : ℕ) → 0 < q → length (item_of written_graph q).values ≡ length (item_of s.graph q).values
  written_shape q some_q = ⊎_elim
      (λ (same, e). ap (λ (item : Item). length item.values) e ∙ length-set (item_of s.graph name).values index value
      ∙ ap (λ x. length (item_of s.graph x).values) (sym same))
      (λ (d, e). ap (λ (item : Item). length item.values) e)
      (item_cases q some_q)

  pub written_long : length written_graph ≡ length s.graph
  written_long = length-with_item s.graph name (item_written (item_of s.graph name) index value)

  protects : (q : ℕ) → 0 < q → is_protected written_graph q ≡ is_protected s.graph q
  protects q some_q = ⊎_elim
      (λ (same, e). ap (λ (item : Item). is_protected_guard item.guard) e ∙ ap (is_protected s.graph) (sym same))
      (λ (d, e). ap (λ (item : Item). is_protected_guard item.guard) e)
      (item_cases q some_q)

  pub SoundKept-field_written : SoundKept s.graph s.heap.place s.collector.kept → SoundKept written_graph s.heap.place s.collector.kept
  SoundKept-field_written h n m =
      let k = h n m in
      let a = some_get (get s.heap.place n) k.0 in
      (k.0, protects n (l.allocated n a.0 a.1).0 ∙ k.1)

  pub SoundNames-field_written : ((n : ℕ) → is_member nat_eq (names_of value) n ≡ true → is_some (get s.heap.place n) ≡ true) →
      SoundNames s.graph s.roots s.heap.place → SoundNames written_graph s.roots s.heap.place
  SoundNames-field_written present h = record {
    children_present = λ m n p c. let a = some_get (get s.heap.place m) p in let b = l.allocated m a.0 a.1 in
        ⊎_elim (λ k. h.children_present m n p k) (λ k. present n k) (child_cases m n b.0 c);
    roots_present = h.roots_present;
  }

  -- another field holds what it held
  field_stays : (n i : ℕ) → 0 < n → ((n ≡ name) → (i ≡ index) → ⊥) → slice_get (item_of written_graph n).values i ≡ slice_get (item_of s.graph n).values i
  field_stays n i some_n other = ⊎_elim
      (λ (same, e). ap (λ (item : Item). slice_get item.values i) e
      ∙ slice_get-set_other (item_of s.graph name).values index i value (λ f. other same f)
      ∙ ap (λ x. slice_get (item_of s.graph x).values i) (sym same))
      (λ (d, e). ap (λ (item : Item). slice_get item.values i) e)
      (item_cases n some_n)

  pub SoundStale-field_written : SoundStale s.graph s.heap.place s.heap.left s.collector.stale s.collector.cursor →
      SoundStale written_graph s.heap.place s.heap.left (without_pair s.collector.stale name index) s.collector.cursor
  SoundStale-field_written h = record {
    fields = λ n i e.
        let both = was_stale n i e in
        let f = h.fields n i both.0 in
        let a = some_get (get s.heap.place n) f.present in
        let b = l.allocated n a.0 a.1 in
        record { present = f.present; child = f.child; holds = field_stays n i b.0 both.1 ∙ f.holds; was_left = f.was_left };
    unvisited = λ n i a e at. h.unvisited n i a (was_stale n i e).0 at;
  }
    where
      was_stale : (n i : ℕ) → is_stale (without_pair s.collector.stale name index) n i ≡ true →
          (is_stale s.collector.stale n i ≡ true) × ((n ≡ name) → (i ≡ index) → ⊥)
      was_stale n i e =
          let both = and_parts (is_stale s.collector.stale n i) _ (sym (stale-without_pair s.collector.stale name index n i) ∙ e) in
          (both.0, λ p q. let w = both.1 in grind (arith, nat_tests, w, p, q))
