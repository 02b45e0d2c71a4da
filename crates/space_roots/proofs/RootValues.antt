-- Roots over words are the model's roots, where f gives the value of a word.
use Rattle.std.proofs.Common.{◌≡◌, ℕ, zero, suc, List, [], ◌∷◌, slice_get, refl, sym, ap, ◌∙◌, Some, ⊎_elim}
use Rattle.std.proofs.lemmas.Bool.{cases_Bool}
use Rattle.std.proofs.lemmas.Option.{same_Some}
use Rattle.std.specs.Option.{option_map}
use Rattle.std.specs.Str.{bytes_eq}
use Rattle.space_model.specs.declared.value.Value.{Value}
use Rattle.space_model.specs.Roots.{root_value, with_root}
use Rattle.space_roots.specs.WordRoots.{root_word, root_words, with_root_word, with_word_at, without_root, root_values}

module _ {X : Type 0} (f : X → Value) where
  -- what a root holds is the value of its word
  pub root_value-root_values : (roots : List (List ℕ × X)) (name : List ℕ) → root_value (root_values f roots) name ≡ option_map f (root_word roots name)
  root_value-root_values [] name = refl
  root_value-root_values (root ∷ roots) name = ⊎_elim
      (λ t. rw t refl)
      (λ e. rw e (root_value-root_values roots name))
      (cases_Bool (bytes_eq name root.0))

  -- to write a word is to write its value
  pub with_root-root_values : (roots : List (List ℕ × X)) (name : List ℕ) (word : X) → with_root (root_values f roots) name (f word) ≡ root_values f (with_root_word roots name word)
  with_root-root_values [] name word = refl
  with_root-root_values (root ∷ roots) name word = ⊎_elim
      (λ t. rw t refl)
      (λ e. rw e (ap (λ rest. (root.0, f root.1) ∷ rest) (with_root-root_values roots name word)))
      (cases_Bool (bytes_eq name root.0))

  -- to take a root away is to take its value away
  pub root_values-without_root : (roots : List (List ℕ × X)) (name : List ℕ) → root_values f (without_root roots name) ≡ without_root (root_values f roots) name
  root_values-without_root [] name = refl
  root_values-without_root (root ∷ roots) name = ⊎_elim
      (λ t. rw t refl)
      (λ e. rw e (ap (λ rest. (root.0, f root.1) ∷ rest) (root_values-without_root roots name)))
      (cases_Bool (bytes_eq name root.0))

  -- where another word of the same value is written, the values stay
  pub root_values-with_word_at : (roots : List (List ℕ × X)) (k : ℕ) (old word : X) → slice_get (root_words roots) k ≡ Some old → f word ≡ f old → root_values f (with_word_at roots k word) ≡ root_values f roots
  root_values-with_word_at [] k old word at same = refl
  root_values-with_word_at (root ∷ roots) zero old word at same = ap (λ v. (root.0, v) ∷ root_values f roots) (same ∙ ap f (sym (same_Some root.1 old at)))
  root_values-with_word_at (root ∷ roots) (suc k) old word at same = ap (λ rest. (root.0, f root.1) ∷ rest) (root_values-with_word_at roots k old word at same)
