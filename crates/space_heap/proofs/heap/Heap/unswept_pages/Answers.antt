use Rattle.std.proofs.Common.{length, ap, ◌∙◌, subst}
use Rattle.space_heap.specs.HeapView.{HeapView}
use Rattle.space_heap.specs.Inside.{rest_of}
use Rattle.space_heap.specs.SoundHeap.{IsSoundHeap}
use Rattle.space_heap.proofs.fields.SoundViews.{sound_read}
use Rattle.space_heap.proofs.WaitingPages.{count_read}
use Rattle.space_heap.proofs.heap.Heap.unswept_pages.Goals as goal

pub returns-clause-count : goal.returns-clause-count
returns-clause-count c = c.unswept_pages.ensures.count ∙ count_read c.self.inside.pools ∙ ap (λ (v : HeapView). length v.unswept) c.self.view_is

pub returns-clause-sound : goal.returns-clause-sound
returns-clause-sound c =
    let h = c.self.inside in
    subst IsSoundHeap c.self.view_is (sound_read h.pools h.marks.items (rest_of h) c.unswept_pages.ensures.sound)
