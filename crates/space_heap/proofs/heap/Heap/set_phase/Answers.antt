use Rattle.space_heap.specs.Inside.{view_from}
use Rattle.space_heap.proofs.updates.SettledSlots.{coherent_phase}
use Rattle.space_heap.proofs.heap.Heap.set_phase.Goals as goal

pub invariant_of-self : goal.invariant_of-self
invariant_of-self c = record {
  marks = c.self.invariant.marks;
  room = c.self.invariant.room;
  places = c.self.invariant.places;
  coherent = coherent_phase (view_from c.self.inside) c.args.phase c.self.invariant.coherent;
}
