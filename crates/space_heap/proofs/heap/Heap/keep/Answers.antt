use Rattle.space_heap.proofs.fields.Here.{start_of_object, place_here}
use Rattle.space_heap.proofs.heap.Heap.keep.Goals as goal

pub slot_of-page-requires : goal.slot_of-page-requires
slot_of-page-requires c = start_of_object c.self.inside _ c.self.view_is _ c.requires

pub keep_in_slot-requires-clause-place : goal.keep_in_slot-requires-clause-place
keep_in_slot-requires-clause-place c = place_here c.self.inside _ c.self.view_is _ _ _ c.slot_of-page.ensures.at
