-- The roots over words: names and what they hold, in the order in which they were made. These are the model's definitions, of roots
-- over values, at words of any kind.
use Rattle.std.specs.Prelude.{ℕ, zero, suc, if◌then◌else◌, List, [], ◌∷◌, map, Option, None, Some}
use Rattle.std.specs.Str.{bytes_eq}
use Rattle.space_model.specs.declared.value.Value.{Value}
use Rattle.space_model.specs.Roots.{Root}

module _ {X : Type 0} where
  -- what the root holds; None where there is no such root
  abbrev pub root_word : List (List ℕ × X) → List ℕ → Option X
  root_word [] name = None
  root_word (root ∷ roots) name = if bytes_eq name root.0 then Some root.1 else root_word roots name

  -- the roots after one is written: it keeps its place, and a new one comes last
  abbrev pub with_root_word : List (List ℕ × X) → List ℕ → X → List (List ℕ × X)
  with_root_word [] name word = (name, word) ∷ []
  with_root_word (root ∷ roots) name word = if bytes_eq name root.0 then (root.0, word) ∷ roots else root ∷ with_root_word roots name word

  -- the roots without one; the others keep their order
  abbrev pub without_root : List (List ℕ × X) → List ℕ → List (List ℕ × X)
  without_root [] name = []
  without_root (root ∷ roots) name = if bytes_eq name root.0 then roots else root ∷ without_root roots name

  -- the roots after the one at an index is written; past the end nothing changes
  abbrev pub with_word_at : List (List ℕ × X) → ℕ → X → List (List ℕ × X)
  with_word_at [] k word = []
  with_word_at (root ∷ roots) zero word = (root.0, word) ∷ roots
  with_word_at (root ∷ roots) (suc k) word = root ∷ with_word_at roots k word

  -- the names of the roots, in order
  abbrev pub root_idents : List (List ℕ × X) → List (List ℕ)
  root_idents roots = map (λ root. root.0) roots

  -- what the roots hold, in order
  abbrev pub root_words : List (List ℕ × X) → List X
  root_words roots = map (λ root. root.1) roots

  -- the model's roots, where f gives the value of a word
  abbrev pub root_values : (X → Value) → List (List ℕ × X) → List Root
  root_values f roots = map (λ root. (root.0, f root.1)) roots
