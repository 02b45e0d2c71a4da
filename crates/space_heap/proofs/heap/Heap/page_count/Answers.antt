use Rattle.std.proofs.Common.{subst}
use Rattle.space_heap.specs.SoundHeap.{IsSoundHeap}
use Rattle.space_heap.specs.Inside.{rest_of}
use Rattle.space_heap.proofs.fields.SoundViews.{sound_read}
use Rattle.space_heap.proofs.heap.Heap.page_count.Goals as goal

pub returns-clause-sound : goal.returns-clause-sound
returns-clause-sound c = let h = c.self.inside in subst IsSoundHeap c.self.view_is (sound_read h.pools h.marks.items (rest_of h) c.page_count.ensures.sound)
