-- Which names are reached: some path of children leads to them from a root or from a word of the stack.
use Rattle.std.specs.Prelude.{◌≡◌, ◌⊎◌, ℕ, true, List, [], ◌∷◌, nat_eq, Some}
use Rattle.std.specs.Set.{is_member}
use Rattle.std.specs.FinMap.{get}
use Rattle.space_model.specs.declared.value.Value.TheVariants.{Name}
use Rattle.space_model.specs.Graph.{IsChild}
use Rattle.space_model.specs.Idents.{IsIdent}
use Rattle.space_model.specs.Roots.{root_value, root_names}
use Rattle.space_model.specs.State.{State}

-- the names of the path, each a child of the one before, lead from a to z
abbrev pub Leads : (ℕ → ℕ → Type 0) → ℕ → List ℕ → ℕ → Type 0
Leads child a [] z = a ≡ z
Leads child a (b ∷ path) z = child a b × Leads child b path z

-- some path begins at a start, goes from each name to a child of it, and ends at the name
abbrev pub IsReached : (ℕ → ℕ → Type 0) → (ℕ → Type 0) → ℕ → Type 0
IsReached child start name = (first : ℕ) × (path : List ℕ) × start first × Leads child first path name

-- the word names the name: the name is present, and its place is the word
abbrev pub Named : State → ℕ → ℕ → Type 0
Named s word name = get s.heap.place name ≡ Some word

-- a root holds the name, or a word of the stack names it
abbrev pub IsStart : State → ℕ → Type 0
IsStart s name = (is_member nat_eq (root_names s.roots) name ≡ true) ⊎ ((word : ℕ) × (is_member nat_eq s.stack word ≡ true) × Named s word name)

-- the name is reached
abbrev pub Reach : State → ℕ → Type 0
Reach s name = IsReached (IsChild s.graph) (IsStart s) name

-- a root that a line can name holds the name, or a word of the stack names it
abbrev pub IsVisibleStart : State → ℕ → Type 0
IsVisibleStart s name =
    ((root : List ℕ) × IsIdent root × (root_value s.roots root ≡ Some (Name name)))
    ⊎ ((word : ℕ) × (is_member nat_eq s.stack word ≡ true) × Named s word name)

-- a path of children leads to the name from such a root or word
abbrev pub VisibleReach : State → ℕ → Type 0
VisibleReach s name = IsReached (IsChild s.graph) (IsVisibleStart s) name
