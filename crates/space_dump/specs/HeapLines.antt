-- The line of a dump for an object of a heap.
use Rattle.std.specs.Prelude.{ℕ, List, length, map}
use Rattle.std.specs.List.{filter}
use Rattle.space_model.specs.Ages.{is_protected_guard}
use Rattle.space_model.specs.DumpLines.{DumpLine}
use Rattle.space_model.specs.Layout.{pool_for, slot_bytes}
use Rattle.space_heap.specs.Generations.{is_old}
use Rattle.space_heap.specs.HeapView.{HeapView}
use Rattle.space_heap.specs.Objects.{is_object, object_of, resolved}

-- where the objects stand now that the words of fields lead to, in the order of the fields; no other word leads to one
abbrev pub references_in : HeapView → List ℕ → List ℕ
references_in v words = filter (is_object v) (map (resolved v) words)

-- the line of the object at an address
abbrev pub line_at : HeapView → ℕ → DumpLine
line_at v a = record {
  address = a;
  fields = length (object_of v a).fields;
  old = is_old (object_of v a);
  style = (object_of v a).style;
  wb_protected = is_protected_guard (object_of v a).guard;
  name = (object_of v a).name;
  references = references_in v (object_of v a).fields;
  slot_size = slot_bytes (pool_for (length (object_of v a).fields));
}
