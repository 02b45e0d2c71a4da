-- Membership in the lists of generations: the children of old names, and the names with a child that isn't old.
use Rattle.std.proofs.Common.{◌≡◌, ℕ, ◌&&◌, not, Bool, true, false, nat_le, List, [], ◌∷◌, nat_eq, refl, sym, ap, ◌∙◌, Some, ⊎_elim}
use Rattle.std.specs.Prelude.{is_some}
use Rattle.std.specs.List.{list_any}
use Rattle.std.specs.Ordering.{nat_cmp}
use Rattle.std.specs.Set.{is_member}
use Rattle.std.specs.FinMap.{FinMap, get, keys}
use Rattle.std.proofs.lemmas.Bool.{and_parts, and_from, or_cases, or_left, or_right, eqb-true, eq-eqb, false≢true, not-true}
use Rattle.space_model.specs.Ages.{is_protected, outlived_by, is_old_in}
use Rattle.space_model.specs.Graph.{Item, children, IsChild}
use Rattle.space_model.specs.Kept.{unprotected_children}
use Rattle.space_model.specs.Moments.{mixed_in}
use Rattle.space_model.proofs.Members.{member_filter}
use Rattle.space_model.proofs.ReachedLaws.{member-keys}

-- one element that passes
pub any_found : (test : ℕ → Bool) (xs : List ℕ) → list_any test xs ≡ true → (x : ℕ) × (is_member nat_eq xs x ≡ true) × (test x ≡ true)
any_found test [] e = absurd (false≢true e)
any_found test (y ∷ ys) e = ⊎_elim
    (λ t. (y, or_left (nat_eq y y) _ (eq-eqb y y refl), t))
    (λ r. let u = any_found test ys r in (u.0, or_right (nat_eq u.0 y) _ u.1, u.2))
    (or_cases (test y) (list_any test ys) e)

pub any_from : (test : ℕ → Bool) (xs : List ℕ) (x : ℕ) → is_member nat_eq xs x ≡ true → test x ≡ true → list_any test xs ≡ true
any_from test [] x m e = absurd (false≢true m)
any_from test (y ∷ ys) x m e = ⊎_elim
    (λ t. or_left (test y) _ (ap test (sym (eqb-true x y t)) ∙ e))
    (λ r. or_right (test y) _ (any_from test ys x r e))
    (or_cases (nat_eq x y) _ m)

module _ (graph : List Item) (place : FinMap nat_cmp ℕ) (outlived : List ℕ) where
  -- whether a name with a place is old
  pub is_old_in-at : (name address : ℕ) → get place name ≡ Some address →
      is_old_in graph place outlived name ≡ (is_protected graph name && nat_le 3 (outlived_by outlived name))
  unfolding is_old_in
  is_old_in-at name address e = ap (λ o. is_some o && (is_protected graph name && nat_le 3 (outlived_by outlived name))) e

  pub is_old_in-present : (name : ℕ) → is_old_in graph place outlived name ≡ true → is_some (get place name) ≡ true
  unfolding is_old_in
  is_old_in-present name e = (and_parts _ _ e).0

  -- an unprotected name, and an old one of which it is a child
  pub record HasOldParent (name : ℕ) : Type 0 where
    pub present : is_some (get place name) ≡ true
    pub unprotected : is_protected graph name ≡ false
    pub parent : ℕ
    pub old : is_old_in graph place outlived parent ≡ true
    pub child : IsChild graph parent name

  pub unprotected_children-found : (name : ℕ) → is_member nat_eq (unprotected_children graph place outlived) name ≡ true → HasOldParent name
  unfolding unprotected_children
  unprotected_children-found name m =
      let both = and_parts _ _ (sym (member_filter _ (keys place) name) ∙ m) in
      let test = and_parts (not (is_protected graph name)) _ both.1 in
      let found = any_found _ (keys place) test.1 in
      let is = and_parts (is_old_in graph place outlived found.0) (is_member nat_eq (children graph found.0) name) found.2 in
      record {
        present = sym (member-keys place name) ∙ both.0;
        unprotected = not-true _ test.0;
        parent = found.0;
        old = is.0;
        child = is.1;
      }

  pub unprotected_children-from : (name : ℕ) → HasOldParent name → is_member nat_eq (unprotected_children graph place outlived) name ≡ true
  unfolding unprotected_children
  unprotected_children-from name h =
      member_filter _ (keys place) name
      ∙ and_from _ _ (member-keys place name ∙ h.present)
      (and_from _ _ (ap not h.unprotected)
      (any_from (λ parent. is_old_in graph place outlived parent && is_member nat_eq (children graph parent) name) (keys place) h.parent
      (member-keys place h.parent ∙ is_old_in-present h.parent h.old)
      (and_from _ _ h.old h.child)))

  -- a present name with a child that isn't old
  pub mixed_in-from : (name child : ℕ) → is_some (get place name) ≡ true → IsChild graph name child → is_old_in graph place outlived child ≡ false →
      is_member nat_eq (mixed_in graph place outlived) name ≡ true
  unfolding mixed_in
  mixed_in-from name child present is young =
      member_filter _ (keys place) name
      ∙ and_from _ _ (member-keys place name ∙ present)
      (any_from (λ child. not (is_old_in graph place outlived child)) (children graph name) child is (ap not young))
