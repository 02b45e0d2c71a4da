use Rattle.space_model.proofs.EntryLaws.{set_read, deleted_gone, size_of_keys}
use Rattle.space_model.proofs.TablesAfter.{entries_go}
use Rattle.space_model.proofs.laws.entries_go_with_their_objects.Goals as goal

pub returns-clause-goes : goal.returns-clause-goes
returns-clause-goes c = entries_go

pub returns-clause-set : goal.returns-clause-set
returns-clause-set c = set_read

pub returns-clause-deleted : goal.returns-clause-deleted
returns-clause-deleted c = deleted_gone

pub returns-clause-size : goal.returns-clause-size
returns-clause-size c = λ s weak h. size_of_keys s.heap.place s.tables.weak weak h.weak
