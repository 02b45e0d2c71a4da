-- The reached names as a list: one name is added at a time, until none is left. A law of this crate says that it lists what is reached.
use Rattle.std.specs.Prelude.{ℕ, zero, suc, not, List, [], ◌∷◌, ◌++◌, length, nat_eq, Option, None, Some}
use Rattle.std.specs.List.{flat_map, find}
use Rattle.std.specs.Ordering.{nat_cmp}
use Rattle.std.specs.Set.{is_member}
use Rattle.std.specs.FinMap.{FinMap}
use Rattle.space_model.specs.Graph.{Item, names_of, children}
use Rattle.space_model.specs.Maps.{names_at}
use Rattle.space_model.specs.State.{State}
use Rattle.space_model.specs.Roots.{Root, root_names}

-- the name, if there is one, before the names
abbrev pub onto : Option ℕ → List ℕ → List ℕ
onto None names = names
onto (Some name) names = name ∷ names

-- one more name, if there is one: a start, or a child of a name that is there
abbrev pub grown : List ℕ → (ℕ → List ℕ) → List ℕ → List ℕ
grown starts children_of names = onto (find (λ name. not (is_member nat_eq names name)) (starts ++ flat_map children_of names)) names

-- the names after so many steps
abbrev pub grown_times : List ℕ → (ℕ → List ℕ) → ℕ → List ℕ → List ℕ
grown_times starts children_of zero names = names
grown_times starts children_of (suc times) names = grown_times starts children_of times (grown starts children_of names)

-- the names that roots hold, and those that stack words name
unfoldable pub start_names : List Root → List ℕ → FinMap nat_cmp ℕ → List ℕ
start_names roots stack place = root_names roots ++ flat_map (names_at place) stack

-- the names that some field holds
unfoldable pub field_names : List Item → List ℕ
field_names graph = flat_map (λ item. flat_map names_of item.values) graph

-- the names that are reached: as many steps as roots, stack words and fields hold names, so that none is left to add
unfoldable pub reached_in : List Item → List Root → List ℕ → FinMap nat_cmp ℕ → List ℕ
reached_in graph roots stack place =
    grown_times (start_names roots stack place) (children graph) (length (start_names roots stack place ++ field_names graph)) []

-- every name that is reached, once
abbrev pub reached_names : State → List ℕ
reached_names s = reached_in s.graph s.roots s.stack s.heap.place
