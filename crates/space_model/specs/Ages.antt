-- How many verdicts names outlived, and which names are old. That three verdicts make an object old is CRuby's (RVALUE_OLD_AGE).
use Rattle.std.specs.Prelude.{ℕ, zero, suc, ◌+◌, Bool, true, false, ◌&&◌, List, length, map, nat_le, slice_index_or, is_some, if◌then◌else◌}
use Rattle.std.specs.List.{range_with_len}
use Rattle.std.specs.Ordering.{nat_cmp}
use Rattle.std.specs.FinMap.{FinMap, get}
use Rattle.space_model.specs.declared.object.Guard.{Guard}
use Rattle.space_model.specs.declared.object.Guard.TheVariants.{Protected, Unprotected}
use Rattle.space_model.specs.Graph.{Item, item_of}
use Rattle.space_model.specs.State.{State}

-- whether the write barrier protects the object
abbrev pub is_protected_guard : Guard → Bool
is_protected_guard Protected = true
is_protected_guard Unprotected = false

-- whether the write barrier protects the name
abbrev pub is_protected : List Item → ℕ → Bool
is_protected graph name = is_protected_guard (item_of graph name).guard

-- the verdicts that a name outlived; 0 is no name
abbrev pub outlived_by : List ℕ → ℕ → ℕ
outlived_by outlived zero = 0
outlived_by outlived (suc index) = slice_index_or outlived index 0

-- whether the name is old: present, protected, and outlived three verdicts or more
unfoldable pub is_old_in : List Item → FinMap nat_cmp ℕ → List ℕ → ℕ → Bool
is_old_in graph place outlived name =
    is_some (get place name) && (is_protected graph name && nat_le 3 (outlived_by outlived name))

-- whether the name is old in the state
abbrev pub is_old : State → ℕ → Bool
is_old s name = is_old_in s.graph s.heap.place s.collector.outlived name

-- for each item of the graph, the verdicts that it outlived after one more: each present name outlived it
unfoldable pub aged : FinMap nat_cmp ℕ → List ℕ → List ℕ
aged place outlived =
    map (λ index. slice_index_or outlived index 0 + (if is_some (get place (index + 1)) then 1 else 0)) (range_with_len 0 (length outlived))
