-- The graph of all objects that were ever allocated. Names are 1, 2, 3 in the order of allocation; no object is ever taken away.
use Rattle.std.specs.Prelude.{◌≡◌, ℕ, zero, suc, true, List, [], ◌∷◌, nat_eq, slice_index_or, slice_set}
use Rattle.std.specs.List.{flat_map}
use Rattle.std.specs.Set.{is_member}
use Rattle.space_model.specs.declared.object.Guard.{Guard}
use Rattle.space_model.specs.declared.object.Guard.TheVariants.{Protected}
use Rattle.space_model.specs.declared.object.Style.{Style}
use Rattle.space_model.specs.declared.object.Style.TheVariants.{Movable}
use Rattle.space_model.specs.declared.value.Value.{Value}
use Rattle.space_model.specs.declared.value.Value.TheVariants.{Nil, Small, Name}

-- an object: whether the write barrier protects it now, its style, and the values of its fields now
pub record Item : Type 0 where
  pub guard : Guard
  pub style : Style
  pub values : List Value

-- what stands for the item of a name that no object has
abbrev pub no_item : Item
no_item = record { guard = Protected; style = Movable; values = [] }

-- the item of a name: that of the name 1 comes first, and 0 is no name
abbrev pub item_of : List Item → ℕ → Item
item_of graph zero = no_item
item_of graph (suc index) = slice_index_or graph index no_item

-- the graph with this item for the name; 0 is no name
abbrev pub with_item : List Item → ℕ → Item → List Item
with_item graph zero item = graph
with_item graph (suc index) item = slice_set graph index item

-- the name that a value is, if it is one
abbrev pub names_of : Value → List ℕ
names_of Nil = []
names_of (Small number) = []
names_of (Name name) = name ∷ []

-- the names that the fields of a name hold
unfoldable pub children : List Item → ℕ → List ℕ
children graph name = flat_map names_of (item_of graph name).values

-- a field of the first holds the second
abbrev pub IsChild : List Item → ℕ → ℕ → Type 0
IsChild graph parent name = is_member nat_eq (children graph parent) name ≡ true
