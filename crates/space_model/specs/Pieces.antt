-- The state after a piece of work: an object allocated, a root or a field written, a root taken away, another stack, an object that the
-- write barrier protects no more. What is reached is noted after each.
use Rattle.std.specs.Prelude.{◌≡◌, ℕ, ◌+◌, List, [], ◌∷◌, ◌++◌, length, replicate, slice_set}
use Rattle.std.specs.FinMap.{insert}
use Rattle.space_model.specs.declared.object.Guard.{Guard}
use Rattle.space_model.specs.declared.object.Guard.TheVariants.{Unprotected}
use Rattle.space_model.specs.declared.object.Style.{Style}
use Rattle.space_model.specs.declared.value.Value.{Value}
use Rattle.space_model.specs.declared.value.Value.TheVariants.{Nil, Name}
use Rattle.space_model.specs.Graph.{Item, item_of, with_item}
use Rattle.space_model.specs.Kept.{kept_with_unprotected}
use Rattle.space_model.specs.Layout.{page_of, pool_for}
use Rattle.space_model.specs.Moments.{noted}
use Rattle.space_model.specs.Pages.{with_pool}
use Rattle.space_model.specs.Roots.{with_root, without_root}
use Rattle.space_model.specs.State.{State}
use Rattle.space_model.specs.StoredWords.{without_pair}

-- an object whose fields are nil
abbrev pub new_item : Guard → Style → ℕ → Item
new_item guard style fields = record { guard = guard; style = style; values = replicate fields Nil }

-- a new object stands at the address, the root holds it, and its page has the pool of its field count; it outlived no verdict
abbrev pub born : State → List ℕ → ℕ → Guard → Style → ℕ → State
born s root fields guard style address = record s {
  graph = s.graph ++ new_item guard style fields ∷ [];
  roots = with_root s.roots root (Name (length s.graph + 1));
  heap = record s.heap {
    place = insert s.heap.place (length s.graph + 1) address;
    pages = with_pool s.heap.pages (page_of address) (pool_for fields);
  };
  collector = record s.collector { outlived = s.collector.outlived ++ 0 ∷ [] };
}

-- t is the state after this allocation, with what is reached noted
abbrev pub Born : State → List ℕ → ℕ → Guard → Style → ℕ → State → Type 0
Born s root fields guard style address t = t ≡ noted (born s root fields guard style address)

-- the root holds the value
abbrev pub root_written : State → List ℕ → Value → State
root_written s root value = record s { roots = with_root s.roots root value }

-- t is the state after the root holds the value, with what is reached noted
abbrev pub RootWritten : State → List ℕ → Value → State → Type 0
RootWritten s root value t = t ≡ noted (root_written s root value)

-- the root is taken away
abbrev pub root_dropped : State → List ℕ → State
root_dropped s root = record s { roots = without_root s.roots root }

-- t is the state after the root is taken away, with what is reached noted
abbrev pub RootDropped : State → List ℕ → State → Type 0
RootDropped s root t = t ≡ noted (root_dropped s root)

-- the stack has these words
abbrev pub stack_replaced : State → List ℕ → State
stack_replaced s words = record s { stack = words }

-- t is the state after the stack has these words, with what is reached noted
abbrev pub StackReplaced : State → List ℕ → State → Type 0
StackReplaced s words t = t ≡ noted (stack_replaced s words)

-- the item after one of its fields is written
abbrev pub item_written : Item → ℕ → Value → Item
item_written item index value = record item { values = slice_set item.values index value }

-- the field of the name holds the value, and is stale no more
abbrev pub field_written : State → ℕ → ℕ → Value → State
field_written s name index value = record s {
  graph = with_item s.graph name (item_written (item_of s.graph name) index value);
  collector = record s.collector { stale = without_pair s.collector.stale name index };
}

-- t is the state after the field holds the value, with what is reached noted
abbrev pub FieldWritten : State → ℕ → ℕ → Value → State → Type 0
FieldWritten s name index value t = t ≡ noted (field_written s name index value)

-- the item after the write barrier protects it no more
abbrev pub item_unprotected : Item → Item
item_unprotected item = record item { guard = Unprotected }

-- the write barrier protects the name no more, so it isn't old any more; it may be kept
abbrev pub unprotected : State → ℕ → State
unprotected s name = record s {
  graph = with_item s.graph name (item_unprotected (item_of s.graph name));
  collector = record s.collector { kept = kept_with_unprotected s.graph s.collector.outlived name s.collector.kept };
}

-- t is the state after the write barrier protects the name no more, with what is reached noted
abbrev pub MadeUnprotected : State → ℕ → State → Type 0
MadeUnprotected s name t = t ≡ noted (unprotected s name)
