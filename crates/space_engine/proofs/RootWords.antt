-- Roots with the words of their values.
use Rattle.std.proofs.Common.{◌≡◌, ℕ, List, [], ◌∷◌, true, nat_eq, refl, ap, Option, ⊎_elim}
use Rattle.std.specs.Option.{option_map, unwrap_or}
use Rattle.std.specs.Ordering.{nat_cmp}
use Rattle.std.specs.FinMap.{FinMap, get, insert, gets}
use Rattle.std.specs.Set.{is_member}
use Rattle.std.specs.Str.{bytes_eq}
use Rattle.std.proofs.Common.{rules}
use Rattle.std.proofs.lemmas.Bool.{cases_Bool, or_left, eq-eqb}
use Rattle.space_model.specs.declared.value.Value.{Value}
use Rattle.space_model.specs.declared.value.Value.TheVariants.{Nil, Small, Name}
use Rattle.space_model.specs.Graph.{names_of}
use Rattle.space_model.specs.Operands.{value_word}
use Rattle.space_model.specs.Roots.{Root, root_names, root_value, with_root, without_root}
use Rattle.space_model.proofs.Members.{member_left, member_right}
use Rattle.space_roots.specs.WordRoots.{root_word, with_root_word, without_root as without_word}
use Rattle.space_engine.specs.Words.{word_roots}

module _ (place : FinMap nat_cmp ℕ) where
  -- the word of a root is that of its value
  pub root_word-word_roots : (roots : List Root) (name : List ℕ) →
      root_word (word_roots place roots) name ≡ option_map (value_word place) (root_value roots name)
  root_word-word_roots [] name = refl
  root_word-word_roots (root ∷ roots) name = ⊎_elim
      (λ t. rw t refl)
      (λ e. rw e (root_word-word_roots roots name))
      (cases_Bool (bytes_eq name root.0))

  -- to write a value is to write its word
  pub with_root_word-word_roots : (roots : List Root) (name : List ℕ) (value : Value) →
      with_root_word (word_roots place roots) name (value_word place value) ≡ word_roots place (with_root roots name value)
  with_root_word-word_roots [] name value = refl
  with_root_word-word_roots (root ∷ roots) name value = ⊎_elim
      (λ t. rw t refl)
      (λ e. rw e (ap (λ rest. (root.0, value_word place root.1) ∷ rest) (with_root_word-word_roots roots name value)))
      (cases_Bool (bytes_eq name root.0))

  -- to take a root away is to take its word away
  pub without_word-word_roots : (roots : List Root) (name : List ℕ) → without_word (word_roots place roots) name ≡ word_roots place (without_root roots name)
  without_word-word_roots [] name = refl
  without_word-word_roots (root ∷ roots) name = ⊎_elim
      (λ t. rw t refl)
      (λ e. rw e (ap (λ rest. (root.0, value_word place root.1) ∷ rest) (without_word-word_roots roots name)))
      (cases_Bool (bytes_eq name root.0))

  module _ (fresh address : ℕ) where
    get_other : (name : ℕ) → (name ≡ fresh → ⊥) → get (insert place fresh address) name ≡ get place name
    get_other name other = grind (gets, rules)

    -- the word of a value stays, where another object is placed
    pub value_word-insert : (value : Value) → ((n : ℕ) → is_member nat_eq (names_of value) n ≡ true → n ≡ fresh → ⊥) →
        value_word (insert place fresh address) value ≡ value_word place value
    value_word-insert Nil other = refl
    value_word-insert (Small number) other = refl
    value_word-insert (Name name) other = ap (λ (o : Option ℕ). unwrap_or o 0) (get_other name (other name (or_left _ _ (eq-eqb name name refl))))

    -- and so do the words of the roots
    pub word_roots-insert : (roots : List Root) → ((n : ℕ) → is_member nat_eq (root_names roots) n ≡ true → n ≡ fresh → ⊥) →
        word_roots (insert place fresh address) roots ≡ word_roots place roots
    unfolding root_names
    word_roots-insert [] other = refl
    word_roots-insert (root ∷ roots) other =
        rw (
          value_word-insert root.1 (λ n m. other n (member_left (names_of root.1) (root_names roots) n m)),
          word_roots-insert roots (λ n m. other n (member_right (names_of root.1) (root_names roots) n m)),
        ) refl
