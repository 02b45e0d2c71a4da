-- Roots over the map's own words, and what one call leaves for the next.
use Rattle.std.proofs.Common.{◌≡◌, ℕ, zero, suc, List, [], ◌∷◌, ◌++◌, length, cond, refl, ap, None, Some, ⊎_elim}
use Rattle.std.proofs.lemmas.Cmp.{nat_list_eq_equiv}
use Rattle.std.proofs.lemmas.Bool.{cases_Bool}
use Rattle.std.specs.Map.{lookup}
use Rattle.std.specs.Str.{bytes_eq}
use Rattle.indexmap.specs.IndexMap.{insert_entry, shift_remove_entry}
use Rattle.indexmap.specs.Layout.{set_value_at}
use Rattle.space_roots.specs.WordRoots.{root_word, root_idents, with_root_word, with_word_at, without_root}

module _ {X : Type 0} where
  pub root_word-lookup : (roots : List (List ℕ × X)) (name : List ℕ) → root_word roots name ≡ lookup (bytes_eq name) roots
  root_word-lookup [] name = refl
  root_word-lookup (root ∷ roots) name = ap (λ o. cond (bytes_eq name root.0) (Some root.1) o) (root_word-lookup roots name)

  pub with_root_word-insert_entry : (roots : List (List ℕ × X)) (name : List ℕ) (word : X) → with_root_word roots name word ≡ insert_entry bytes_eq roots name word
  with_root_word-insert_entry [] name word = refl
  with_root_word-insert_entry (root ∷ roots) name word = ap (λ rest. cond (bytes_eq name root.0) ((root.0, word) ∷ roots) (root ∷ rest)) (with_root_word-insert_entry roots name word)

  pub without_root-shift_remove_entry : (roots : List (List ℕ × X)) (name : List ℕ) → without_root roots name ≡ shift_remove_entry (bytes_eq name) roots
  without_root-shift_remove_entry [] name = refl
  without_root-shift_remove_entry (root ∷ roots) name = ap (λ rest. cond (bytes_eq name root.0) roots (root ∷ rest)) (without_root-shift_remove_entry roots name)

  pub with_word_at-set_value_at : (roots : List (List ℕ × X)) (k : ℕ) (word : X) → with_word_at roots k word ≡ set_value_at roots k word
  with_word_at-set_value_at [] k word = refl
  with_word_at-set_value_at (root ∷ roots) zero word = refl
  with_word_at-set_value_at (root ∷ roots) (suc k) word = ap (λ rest. root ∷ rest) (with_word_at-set_value_at roots k word)

  -- a root that isn't there is written last
  pub with_root_word-absent : (roots : List (List ℕ × X)) (name : List ℕ) (word : X) → root_word roots name ≡ None → with_root_word roots name word ≡ roots ++ (name, word) ∷ []
  with_root_word-absent [] name word absent = refl
  with_root_word-absent (root ∷ roots) name word absent = ⊎_elim
      (λ t. let f = rw t at absent in absurd (cc))
      (λ f. rw f (ap (λ rest. root ∷ rest) (with_root_word-absent roots name word (rw f at absent))))
      (cases_Bool (bytes_eq name root.0))

  -- once a place is made for a root that isn't there, it is written as it would be without
  pub with_root_word-reserved : (roots : List (List ℕ × X)) (name : List ℕ) (reserved word : X) → root_word roots name ≡ None → with_root_word (roots ++ (name, reserved) ∷ []) name word ≡ with_root_word roots name word
  with_root_word-reserved [] name reserved word absent = rw (nat_list_eq_equiv.refl name) refl
  with_root_word-reserved (root ∷ roots) name reserved word absent = ⊎_elim
      (λ t. let f = rw t at absent in absurd (cc))
      (λ f. rw f (ap (λ rest. root ∷ rest) (with_root_word-reserved roots name reserved word (rw f at absent))))
      (cases_Bool (bytes_eq name root.0))

  -- and once it is taken away again, the roots are as they were
  pub without_root-reserved : (roots : List (List ℕ × X)) (name : List ℕ) (reserved : X) → root_word roots name ≡ None → without_root (roots ++ (name, reserved) ∷ []) name ≡ roots
  without_root-reserved [] name reserved absent = rw (nat_list_eq_equiv.refl name) refl
  without_root-reserved (root ∷ roots) name reserved absent = ⊎_elim
      (λ t. let f = rw t at absent in absurd (cc))
      (λ f. rw f (ap (λ rest. root ∷ rest) (without_root-reserved roots name reserved (rw f at absent))))
      (cases_Bool (bytes_eq name root.0))

  -- without a root that isn't there the roots are the same
  pub without_root-absent : (roots : List (List ℕ × X)) (name : List ℕ) → root_word roots name ≡ None → without_root roots name ≡ roots
  without_root-absent [] name absent = refl
  without_root-absent (root ∷ roots) name absent = ⊎_elim
      (λ t. let f = rw t at absent in absurd (cc))
      (λ f. rw f (ap (λ rest. root ∷ rest) (without_root-absent roots name (rw f at absent))))
      (cases_Bool (bytes_eq name root.0))

  -- a root that was written holds the word
  pub root_word-with_root_word : (roots : List (List ℕ × X)) (name : List ℕ) (word : X) → root_word (with_root_word roots name word) name ≡ Some word
  root_word-with_root_word [] name word = rw (nat_list_eq_equiv.refl name) refl
  root_word-with_root_word (root ∷ roots) name word = ⊎_elim
      (λ t. rw t (rw t refl))
      (λ f. rw f (rw f (root_word-with_root_word roots name word)))
      (cases_Bool (bytes_eq name root.0))

  -- a write by index leaves the names, so their order
  pub root_idents-with_word_at : (roots : List (List ℕ × X)) (k : ℕ) (word : X) → root_idents (with_word_at roots k word) ≡ root_idents roots
  root_idents-with_word_at [] k word = refl
  root_idents-with_word_at (root ∷ roots) zero word = refl
  root_idents-with_word_at (root ∷ roots) (suc k) word = ap (λ rest. root.0 ∷ rest) (root_idents-with_word_at roots k word)

  -- and the number of roots
  pub length-with_word_at : (roots : List (List ℕ × X)) (k : ℕ) (word : X) → length (with_word_at roots k word) ≡ length roots
  length-with_word_at [] k word = refl
  length-with_word_at (root ∷ roots) zero word = refl
  length-with_word_at (root ∷ roots) (suc k) word = ap suc (length-with_word_at roots k word)
