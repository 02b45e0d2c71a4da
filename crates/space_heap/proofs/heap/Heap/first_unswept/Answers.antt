use Rattle.std.proofs.Common.{◌≡◌, [], subst}
use Rattle.std.specs.Prelude.{MatchOption}
use Rattle.space_heap.specs.HeapView.{HeapView}
use Rattle.space_heap.specs.Inside.{rest_of}
use Rattle.space_heap.specs.Sweeping.{IsFirstUnswept}
use Rattle.space_heap.specs.SoundHeap.{IsSoundHeap}
use Rattle.space_heap.proofs.fields.SoundViews.{sound_read}
use Rattle.space_heap.proofs.WaitingPages.{first_read}
use Rattle.space_heap.proofs.heap.Heap.first_unswept.Goals as goal

pub returns-clause-first : goal.returns-clause-first
returns-clause-first c =
    let h = c.self.inside in
    subst (λ (v : HeapView). MatchOption c.first_unswept.result (v.unswept ≡ []) (IsFirstUnswept v)) c.self.view_is
    (first_read h.pools h.marks.items (rest_of h) c.first_unswept.result c.first_unswept.ensures.first)

pub returns-clause-sound : goal.returns-clause-sound
returns-clause-sound c =
    let h = c.self.inside in
    subst IsSoundHeap c.self.view_is (sound_read h.pools h.marks.items (rest_of h) c.first_unswept.ensures.sound)
