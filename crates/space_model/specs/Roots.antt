-- The roots: names and what they hold, in the order in which they were made.
use Rattle.std.specs.Prelude.{ℕ, if◌then◌else◌, List, [], ◌∷◌, Option, None, Some}
use Rattle.std.specs.List.{flat_map}
use Rattle.std.specs.Str.{bytes_eq}
use Rattle.space_model.specs.declared.value.Value.{Value}
use Rattle.space_model.specs.Graph.{names_of}

-- a root's ident, and what it holds
abbrev pub Root : Type 0
Root = List ℕ × Value

-- what the root holds; None where there is no such root
abbrev pub root_value : List Root → List ℕ → Option Value
root_value [] name = None
root_value (root ∷ roots) name = if bytes_eq name root.0 then Some root.1 else root_value roots name

-- the roots after one is written: it keeps its place, and a new one comes last
abbrev pub with_root : List Root → List ℕ → Value → List Root
with_root [] name value = (name, value) ∷ []
with_root (root ∷ roots) name value = if bytes_eq name root.0 then (root.0, value) ∷ roots else root ∷ with_root roots name value

-- the roots after one is taken away: the others keep their order
abbrev pub without_root : List Root → List ℕ → List Root
without_root [] name = []
without_root (root ∷ roots) name = if bytes_eq name root.0 then roots else root ∷ without_root roots name

-- the names that roots hold
unfoldable pub root_names : List Root → List ℕ
root_names roots = flat_map (λ root. names_of root.1) roots
