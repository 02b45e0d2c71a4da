-- Values are present, and small where they are integers: so are those that commands read and write.
use Rattle.std.proofs.Common.{◌≡◌, ℕ, inl, inr, zero, suc, ◌≤◌, lit≤, true, false, List, [], ◌∷◌, ◌++◌, nat_eq, get_or, set, length, ap, ◌∙◌, refl, sym, subst, arith, ⊎_elim, Option, None, Some}
use Rattle.std.specs.Prelude.{is_some, slice_get, replicate}
use Rattle.std.specs.List.{flat_map}
use Rattle.std.specs.Set.{is_member}
use Rattle.std.specs.Str.{bytes_eq}
use Rattle.std.specs.Ordering.{nat_cmp}
use Rattle.std.specs.FinMap.{FinMap, get}
use Rattle.std.proofs.lemmas.Bool.{cases_Bool, false≢true, false_from_ne_true, or_left, or_cases, eq-eqb, eqb-true}
use Rattle.std.proofs.lemmas.Slice.Eq.{bytes_eq-Decides}
use Rattle.std.proofs.lemmas.List.{length-replicate, length-set}
use Rattle.space_model.specs.declared.object.Guard.{Guard}
use Rattle.space_model.specs.declared.object.Style.{Style}
use Rattle.space_model.specs.declared.value.Value.{Value}
use Rattle.space_model.specs.declared.value.Value.TheVariants.{Nil, Small, Name}
use Rattle.space_model.specs.Graph.{Item, no_item, item_of, with_item, names_of, children, IsChild}
use Rattle.space_model.specs.Idents.{IsIdent}
use Rattle.space_model.specs.Layout.{most_fields}
use Rattle.space_model.specs.Pieces.{new_item, item_written}
use Rattle.space_model.specs.Reach.{IsStart, Reach}
use Rattle.space_model.specs.Roots.{Root, root_value, root_names, with_root, without_root}
use Rattle.space_model.specs.Sound.{Sound, IsSmall, AreSmall, AreSoundItems, AreSoundRoots}
use Rattle.space_model.specs.State.{State}
use Rattle.space_model.proofs.Members.{member_left, member_right, member_cases}
use Rattle.space_model.proofs.Reaching.{IsReached-start, IsReached-closed}
use Rattle.space_model.proofs.ValuesHold.{IsKeptFact}

-- every name of the value is present
abbrev pub IsPresentValue : FinMap nat_cmp ℕ → Value → Type 0
IsPresentValue place value = (n : ℕ) → is_member nat_eq (names_of value) n ≡ true → is_some (get place n) ≡ true

pub name_present : (place : FinMap nat_cmp ℕ) (name : ℕ) → IsPresentValue place (Name name) → is_some (get place name) ≡ true
name_present place name p = p name (or_left _ _ (eq-eqb name name refl))

-- a name that stands somewhere is a present value
pub placed_present : (place : FinMap nat_cmp ℕ) (name word : ℕ) → get place name ≡ Some word → IsPresentValue place (Name name)
placed_present place name word e n m = ⊎_elim
    (λ same. ap (λ x. is_some (get place x)) (eqb-true n name same) ∙ ap is_some e)
    (λ none. absurd (false≢true none))
    (or_cases _ _ m)

-- what a root holds is among the names of the roots
pub root_value-member : (roots : List Root) (name : List ℕ) (value : Value) (n : ℕ) → root_value roots name ≡ Some value →
    is_member nat_eq (names_of value) n ≡ true → is_member nat_eq (root_names roots) n ≡ true
unfolding root_names
root_value-member [] name value n e m = absurd (cc)
root_value-member (root ∷ roots) name value n e m = ⊎_elim
    (λ t. let same : root.1 ≡ value = (let f = rw t at e in cc) in
    member_left (names_of root.1) (root_names roots) n (ap (λ v. is_member nat_eq (names_of v) n) same ∙ m))
    (λ f. member_right (names_of root.1) (root_names roots) n (root_value-member roots name value n (rw f at e) m))
    (cases_Bool (bytes_eq name root.0))

get_member : (values : List Value) (index : ℕ) (value : Value) (n : ℕ) → slice_get values index ≡ Some value → is_member nat_eq (names_of value) n ≡ true →
    is_member nat_eq (flat_map names_of values) n ≡ true
get_member [] index value n e m = absurd (cc)
get_member (v ∷ values) zero value n e m = member_left (names_of v) _ n (let same : v ≡ value = cc in ap (λ x. is_member nat_eq (names_of x) n) same ∙ m)
get_member (v ∷ values) (suc index) value n e m = member_right (names_of v) _ n (get_member values index value n e m)

-- in a sound state values are present
pub present_kept : (s : State) → Sound s → IsKeptFact s (IsPresentValue s.heap.place)
unfolding children
present_kept s h = record {
  nil = λ n m. absurd (false≢true m);
  small = λ number low n m. absurd (false≢true m);
  named = λ word name on e. placed_present s.heap.place name word e;
  root = λ root value e n m. h.names.roots_present n (root_value-member s.roots root value n e m);
  field = λ name index value p e n m. h.names.children_present name n (name_present s.heap.place name p)
      (get_member (item_of s.graph name).values index value n e m);
}

-- every name of the value is reached
abbrev pub IsReachedValue : State → Value → Type 0
IsReachedValue s value = (n : ℕ) → is_member nat_eq (names_of value) n ≡ true → Reach s n

-- so it is of values that roots, named objects and fields of such hold
pub reached_kept : (s : State) → IsKeptFact s (IsReachedValue s)
unfolding children
reached_kept s = record {
  nil = λ n m. absurd (false≢true m);
  small = λ number low n m. absurd (false≢true m);
  named = λ word name on e n m. IsReached-start (IsChild s.graph) (IsStart s) n (inr (
    word,
    on,
    ⊎_elim (λ t. ap (get s.heap.place) (eqb-true n name t) ∙ e) (λ f. absurd (false≢true f)) (or_cases _ _ m),
  ));
  root = λ root value e n m. IsReached-start (IsChild s.graph) (IsStart s) n (inl (root_value-member s.roots root value n e m));
  field = λ name index value p e n m. IsReached-closed (IsChild s.graph) (IsStart s) name n (p name (or_left _ _ (eq-eqb name name refl)))
      (get_member (item_of s.graph name).values index value n e m);
}

value_small : (values : List Value) (index : ℕ) (value : Value) → AreSmall values → slice_get values index ≡ Some value → IsSmall value
value_small [] index value h e = absurd (cc)
value_small (v ∷ values) zero value h e = let same : v ≡ value = cc in subst IsSmall same h.0
value_small (v ∷ values) (suc index) value h e = value_small values index value h.1 e

item_at : (graph : List Item) (index : ℕ) → AreSoundItems graph →
    (length (get_or graph index no_item).values ≤ most_fields) × AreSmall (get_or graph index no_item).values
item_at [] index h = (lit≤ tt, tt)
item_at (item ∷ graph) zero h = (h.0, h.1)
item_at (item ∷ graph) (suc index) h = item_at graph index h.2

-- an item has few fields, and small integers in them
pub item_sound : (graph : List Item) (name : ℕ) → AreSoundItems graph → (length (item_of graph name).values ≤ most_fields) × AreSmall (item_of graph name).values
item_sound graph zero h = (lit≤ tt, tt)
item_sound graph (suc index) h = item_at graph index h

root_small : (roots : List Root) (name : List ℕ) (value : Value) → AreSoundRoots roots → root_value roots name ≡ Some value → IsSmall value
root_small [] name value h e = absurd (cc)
root_small (root ∷ roots) name value h e = ⊎_elim
    (λ t. let same : root.1 ≡ value = (let f = rw t at e in cc) in subst IsSmall same h.2)
    (λ f. root_small roots name value h.3 (rw f at e))
    (cases_Bool (bytes_eq name root.0))

-- and small
pub small_kept : (s : State) → Sound s → IsKeptFact s IsSmall
small_kept s h = record {
  nil = tt;
  small = λ number low. low;
  named = λ word name on e. tt;
  root = λ root value e. root_small s.roots root value h.roots e;
  field = λ name index value p e. value_small (item_of s.graph name).values index value (item_sound s.graph name h.items).1 e;
}

pub AreSmall-nil : (fields : ℕ) → AreSmall (replicate fields Nil)
AreSmall-nil zero = tt
AreSmall-nil (suc fields) = (tt, AreSmall-nil fields)

AreSmall-set : (values : List Value) (index : ℕ) (value : Value) → IsSmall value → AreSmall values → AreSmall (set values index value)
AreSmall-set [] index value v h = tt
AreSmall-set (x ∷ values) zero value v h = (v, h.1)
AreSmall-set (x ∷ values) (suc index) value v h = (h.0, AreSmall-set values index value v h.1)

-- a new object
pub AreSoundItems-push : (graph : List Item) (guard : Guard) (style : Style) (fields : ℕ) → fields ≤ most_fields → AreSoundItems graph →
    AreSoundItems (graph ++ new_item guard style fields ∷ [])
AreSoundItems-push [] guard style fields few h = (let e = length-replicate fields Nil in omega arith, AreSmall-nil fields, tt)
AreSoundItems-push (item ∷ graph) guard style fields few h = (h.0, h.1, AreSoundItems-push graph guard style fields few h.2)

AreSoundItems-set : (graph : List Item) (index : ℕ) (item : Item) → length item.values ≤ most_fields → AreSmall item.values → AreSoundItems graph →
    AreSoundItems (set graph index item)
AreSoundItems-set [] index item few small h = tt
AreSoundItems-set (x ∷ graph) zero item few small h = (few, small, h.2)
AreSoundItems-set (x ∷ graph) (suc index) item few small h = (h.0, h.1, AreSoundItems-set graph index item few small h.2)

-- another item for a name
pub AreSoundItems-with_item : (graph : List Item) (name : ℕ) (item : Item) → length item.values ≤ most_fields → AreSmall item.values → AreSoundItems graph →
    AreSoundItems (with_item graph name item)
AreSoundItems-with_item graph zero item few small h = h
AreSoundItems-with_item graph (suc before) item few small h = AreSoundItems-set graph before item few small h

-- a field written
pub AreSoundItems-field_written : (graph : List Item) (name index : ℕ) (value : Value) → IsSmall value → AreSoundItems graph →
    AreSoundItems (with_item graph name (item_written (item_of graph name) index value))
AreSoundItems-field_written graph name index value small h =
    let item = item_of graph name in
    let sound = item_sound graph name h in
    AreSoundItems-with_item graph name (item_written item index value)
    (let e = length-set item.values index value in let f = sound.0 in omega arith)
    (AreSmall-set item.values index value small sound.1)
    h

apart_back : (a b : List ℕ) → bytes_eq a b ≡ false → bytes_eq b a ≡ false
apart_back a b e = false_from_ne_true _ (λ t. false≢true (sym e ∙ (bytes_eq-Decides a b).1 (sym ((bytes_eq-Decides b a).0 t))))

no_some : (value : Value) → ◌≡◌ {A = Option Value} (Some value) None → ⊥
no_some value e = cc

-- a root that isn't there isn't there either after another was written or taken away
absent-with_root : (roots : List Root) (root other : List ℕ) (value : Value) → bytes_eq other root ≡ false → root_value roots other ≡ None →
    root_value (with_root roots root value) other ≡ None
absent-with_root [] root other value apart none = rw apart refl
absent-with_root (r ∷ roots) root other value apart none = ⊎_elim
    (λ (t : bytes_eq other r.0 ≡ true). absurd (no_some r.1 (rw t at none)))
    (λ (f : bytes_eq other r.0 ≡ false). absent_after (absent-with_root roots root other value apart) f)
    (cases_Bool (bytes_eq other r.0))
  where
    absent_after : (root_value roots other ≡ None → root_value (with_root roots root value) other ≡ None) → bytes_eq other r.0 ≡ false →
        root_value (with_root (r ∷ roots) root value) other ≡ None
    absent_after others f =
        let rest : root_value roots other ≡ None = rw f at none in
        ⊎_elim
        (λ (t : bytes_eq root r.0 ≡ true). rw (t, f) rest)
        (λ (g : bytes_eq root r.0 ≡ false). rw (g, f) (others rest))
        (cases_Bool (bytes_eq root r.0))

absent-without_root : (roots : List Root) (root other : List ℕ) → root_value roots other ≡ None → root_value (without_root roots root) other ≡ None
absent-without_root [] root other none = refl
absent-without_root (r ∷ roots) root other none = ⊎_elim
    (λ (t : bytes_eq other r.0 ≡ true). absurd (no_some r.1 (rw t at none)))
    (λ (f : bytes_eq other r.0 ≡ false). absent_after (absent-without_root roots root other) f)
    (cases_Bool (bytes_eq other r.0))
  where
    absent_after : (root_value roots other ≡ None → root_value (without_root roots root) other ≡ None) → bytes_eq other r.0 ≡ false →
        root_value (without_root (r ∷ roots) root) other ≡ None
    absent_after others f =
        let rest : root_value roots other ≡ None = rw f at none in
        ⊎_elim
        (λ (t : bytes_eq root r.0 ≡ true). rw t rest)
        (λ (g : bytes_eq root r.0 ≡ false). rw (g, f) (others rest))
        (cases_Bool (bytes_eq root r.0))

-- a root written
pub AreSoundRoots-with_root : (roots : List Root) (root : List ℕ) (value : Value) → IsIdent root → IsSmall value → AreSoundRoots roots →
    AreSoundRoots (with_root roots root value)
AreSoundRoots-with_root [] root value ident v h = (ident, refl, v, tt)
AreSoundRoots-with_root (r ∷ roots) root value ident v h = ⊎_elim
    (λ (t : bytes_eq root r.0 ≡ true). rw t (h.0, h.1, v, h.3))
    (λ (f : bytes_eq root r.0 ≡ false).
    let absent = absent-with_root roots root r.0 value (apart_back root r.0 f) h.1 in
    rw f (h.0, absent, h.2, AreSoundRoots-with_root roots root value ident v h.3))
    (cases_Bool (bytes_eq root r.0))

-- a root taken away
pub AreSoundRoots-without_root : (roots : List Root) (root : List ℕ) → AreSoundRoots roots → AreSoundRoots (without_root roots root)
AreSoundRoots-without_root [] root h = tt
AreSoundRoots-without_root (r ∷ roots) root h = ⊎_elim
    (λ (t : bytes_eq root r.0 ≡ true). rw t h.3)
    (λ (f : bytes_eq root r.0 ≡ false). rw f (h.0, absent-without_root roots root r.0 h.1, h.2, AreSoundRoots-without_root roots root h.3))
    (cases_Bool (bytes_eq root r.0))

-- what a root holds is the value of some root that a line can name
pub root_of_name : (roots : List Root) (n : ℕ) → AreSoundRoots roots → is_member nat_eq (root_names roots) n ≡ true →
    (root : List ℕ) × IsIdent root × (root_value roots root ≡ Some (Name n))
unfolding root_names
root_of_name [] n h m = absurd (false≢true m)
root_of_name (r ∷ roots) n h m = ⊎_elim
    (λ here. (r.0, h.0, rw ((bytes_eq-Decides r.0 r.0).1 refl) (ap Some (held_name r.1 n here))))
    (λ later. let found = root_of_name roots n h.3 later in (
      found.0,
      found.1,
      ⊎_elim
          (λ t. absurd (no_some (Name n) (sym found.2 ∙ ap (root_value roots) ((bytes_eq-Decides found.0 r.0).0 t) ∙ h.1)))
          (λ f. rw f found.2)
          (cases_Bool (bytes_eq found.0 r.0)),
    ))
    (member_cases (names_of r.1) (root_names roots) n m)
  where
    held_name : (value : Value) (n : ℕ) → is_member nat_eq (names_of value) n ≡ true → value ≡ Name n
    held_name Nil n m = absurd (false≢true m)
    held_name (Small number) n m = absurd (false≢true m)
    held_name (Name name) n m = ⊎_elim (λ same. ap Name (sym (eqb-true n name same))) (λ none. absurd (false≢true none)) (or_cases _ _ m)
