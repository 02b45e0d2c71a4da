use Rattle.std.proofs.Common.{◌<◌, sym, ap, ◌∙◌, subst, length}
use Rattle.space_heap.specs.planes.MarkPlanes.{traits_from}
use Rattle.space_heap.proofs.fields.Here.{start_of_object, page_here, slot_here, traits_here}
use Rattle.space_heap.proofs.heap.Heap.traits.Goals as goal

pub marks_of-requires : goal.marks_of-requires
marks_of-requires c = page_here c.self.inside _ c.self.view_is _ _ _ c.self.invariant c.slot_of-page.ensures.at

pub traits-requires-clause-within : goal.traits-requires-clause-within
traits-requires-clause-within c = subst (λ m. c.slot_of-page.result.1 < length m.object) (sym c.marks_of.ensures)
    (slot_here c.self.inside _ c.self.view_is _ _ _ c.self.invariant c.slot_of-page.ensures.at)

pub slot_of-page-requires : goal.slot_of-page-requires
slot_of-page-requires c = start_of_object c.self.inside _ c.self.view_is _ c.requires

pub returns-clause-traits : goal.returns-clause-traits
returns-clause-traits c =
    c.traits.ensures.traits
    ∙ ap (λ m. traits_from m c.slot_of-page.result.1) c.marks_of.ensures
    ∙ traits_here c.self.inside _ c.self.view_is _ _ _ c.self.invariant c.slot_of-page.ensures.at c.requires

pub returns-clause-most : goal.returns-clause-most
returns-clause-most c = c.traits.ensures.most
