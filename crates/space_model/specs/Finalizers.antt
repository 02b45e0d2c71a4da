-- Finalizers as plain lists of pairs of a name and a label. CRuby keeps the finalizers of an object in order of definition too; labels in
-- place of procs are this project's own.
use Rattle.std.specs.Prelude.{ℕ, not, nat_eq, if◌then◌else◌, List, [], ◌∷◌, ◌++◌, map}
use Rattle.std.specs.List.{filter}
use Rattle.std.specs.Set.{is_member}

-- the labels of a name, in order
abbrev pub labels_of : List (ℕ × List ℕ) → ℕ → List (List ℕ)
labels_of [] name = []
labels_of (pair ∷ pairs) name = if nat_eq name pair.0 then pair.1 ∷ labels_of pairs name else labels_of pairs name

-- a name's pairs with these labels, in order
abbrev pub pairs_of : ℕ → List (List ℕ) → List (ℕ × List ℕ)
pairs_of name labels = map (λ label. (name, label)) labels

-- the names of pairs
abbrev pub pair_names : List (ℕ × List ℕ) → List ℕ
pair_names pairs = map (λ (pair : ℕ × List ℕ). pair.0) pairs

-- the pairs without those of a name
abbrev pub without_name : List (ℕ × List ℕ) → ℕ → List (ℕ × List ℕ)
without_name pairs name = filter (λ pair. not (nat_eq name pair.0)) pairs

-- the pairs without those of some names
abbrev pub without_names : List (ℕ × List ℕ) → List ℕ → List (ℕ × List ℕ)
without_names pairs names = filter (λ (pair : ℕ × List ℕ). not (is_member nat_eq names pair.0)) pairs

-- the pairs of some names: one name after another, and for each its pairs in order
abbrev pub pairs_of_names : List (ℕ × List ℕ) → List ℕ → List (ℕ × List ℕ)
pairs_of_names pairs [] = []
pairs_of_names pairs (name ∷ names) = pairs_of name (labels_of pairs name) ++ pairs_of_names pairs names
