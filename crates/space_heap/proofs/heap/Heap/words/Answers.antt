use Rattle.std.proofs.Common.{◌≤◌, sym, subst}
use Rattle.space_heap.proofs.fields.Here.{start_of_object, used_here, words_here}
use Rattle.space_heap.proofs.starts.PoolStarts.{narrow_slot}
use Rattle.space_heap.proofs.heap.Heap.words.Goals as goal

pub slot-requires : goal.slot-requires
slot-requires c = used_here c.self.inside _ c.self.view_is _ _ _ c.self.invariant c.slot_of-page.ensures.at c.requires

pub slot_of-page-requires : goal.slot_of-page-requires
slot_of-page-requires c = start_of_object c.self.inside _ c.self.view_is _ c.requires

pub returns-clause-shown : goal.returns-clause-shown
returns-clause-shown c = words_here c.self.inside _ c.self.view_is _ _ _ c.self.invariant c.slot_of-page.ensures.at _ c.requires c.slot.ensures.words

pub returns-clause-most : goal.returns-clause-most
returns-clause-most c = subst (λ n. n ≤ 80) (sym c.slot.ensures.len) (narrow_slot c.self.inside.pools c.slot_of-page.result.0 c.slot_of-page.ensures.sound)
