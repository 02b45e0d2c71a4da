-- Roots whose words are resolved.
use Rattle.std.proofs.Common.{◌≡◌, ℕ, List, [], ◌∷◌, refl, ap, ⊎_elim}
use Rattle.std.specs.Option.{option_map}
use Rattle.std.specs.Str.{bytes_eq}
use Rattle.std.proofs.lemmas.Bool.{cases_Bool}
use Rattle.space_heap.specs.HeapView.{HeapView}
use Rattle.space_heap.specs.Objects.{resolved, HasNoMoved}
use Rattle.space_heap.proofs.MovedLaws.{resolved_unmoved}
use Rattle.space_roots.specs.WordRoots.{root_word, with_root_word, without_root as without_word}
use Rattle.space_engine.specs.Words.{resolved_roots}

module _ (heap : HeapView) where
  -- the word of a root
  pub root_word-resolved : (words : List (List ℕ × ℕ)) (name : List ℕ) →
      root_word (resolved_roots heap words) name ≡ option_map (resolved heap) (root_word words name)
  root_word-resolved [] name = refl
  root_word-resolved (root ∷ roots) name = ⊎_elim
      (λ t. rw t refl)
      (λ e. rw e (root_word-resolved roots name))
      (cases_Bool (bytes_eq name root.0))

  -- a root that is written
  pub with_root_word-resolved : (words : List (List ℕ × ℕ)) (name : List ℕ) (word : ℕ) →
      with_root_word (resolved_roots heap words) name (resolved heap word) ≡ resolved_roots heap (with_root_word words name word)
  with_root_word-resolved [] name word = refl
  with_root_word-resolved (root ∷ roots) name word = ⊎_elim
      (λ t. rw t refl)
      (λ e. rw e (ap (λ others. (root.0, resolved heap root.1) ∷ others) (with_root_word-resolved roots name word)))
      (cases_Bool (bytes_eq name root.0))

  -- a root that is taken away
  pub without_word-resolved : (words : List (List ℕ × ℕ)) (name : List ℕ) →
      without_word (resolved_roots heap words) name ≡ resolved_roots heap (without_word words name)
  without_word-resolved [] name = refl
  without_word-resolved (root ∷ roots) name = ⊎_elim
      (λ t. rw t refl)
      (λ e. rw e (ap (λ others. (root.0, resolved heap root.1) ∷ others) (without_word-resolved roots name)))
      (cases_Bool (bytes_eq name root.0))

  -- where nothing was moved each word is its own
  pub resolved_roots-unmoved : HasNoMoved heap → (words : List (List ℕ × ℕ)) → resolved_roots heap words ≡ words
  resolved_roots-unmoved none [] = refl
  resolved_roots-unmoved none (root ∷ roots) = λ j. (root.0, resolved_unmoved heap root.1 (none root.1) j) ∷ resolved_roots-unmoved none roots j

-- heaps that lead alike resolve roots alike
pub resolved_roots-same : (v w : HeapView) → ((word : ℕ) → resolved w word ≡ resolved v word) → (words : List (List ℕ × ℕ)) →
    resolved_roots w words ≡ resolved_roots v words
resolved_roots-same v w same [] = refl
resolved_roots-same v w same (root ∷ roots) = λ j. (root.0, same root.1 j) ∷ resolved_roots-same v w same roots j
