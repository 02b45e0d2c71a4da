-- The line that is shown of a heap.
use Rattle.space_model.specs.DumpLines.{DumpLine}
use Rattle.space_dump.specs.declared.line.Line.{Line}
use Rattle.space_dump.specs.HeapLines.{references_in}

-- what the line tells, once its words are resolved
abbrev pub shown : Line → DumpLine
shown l = record {
  address = l.address;
  fields = l.fields;
  old = l.old;
  style = l.style;
  wb_protected = l.wb_protected;
  name = l.name;
  references = references_in l.heap.now l.words.now;
  slot_size = l.slot_size;
}
