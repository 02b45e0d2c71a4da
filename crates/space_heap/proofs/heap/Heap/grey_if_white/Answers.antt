use Rattle.std.proofs.Common.{◌&&◌, sym, ap}
use Rattle.space_heap.specs.Marking.{colour_of, is_white}
use Rattle.space_heap.proofs.fields.Here.{none_object, place_here}
use Rattle.space_heap.proofs.MarkingLaws.{visited_same}
use Rattle.space_heap.proofs.heap.Heap.grey_if_white.Goals as goal

pub returns-in_default : goal.returns-in_default
returns-in_default c = sym (visited_same c.args.self.now c.args.word (ap (λ b. b && is_white (colour_of c.args.self.now c.args.word))
    (none_object c.self.inside _ c.self.view_is _ c.in_default.ensures.place)))

pub grey_slot_if_white-requires : goal.grey_slot_if_white-requires
grey_slot_if_white-requires c = place_here c.self.inside _ c.self.view_is _ _ _ c.in-Some.ensures.place
