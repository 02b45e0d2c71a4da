use Rattle.std.proofs.Common.{subst}
use Rattle.std.specs.Prelude.{MatchOption}
use Rattle.space_heap.specs.FreeSlots.{IsLeastFree, HasNoFree}
use Rattle.space_heap.specs.Inside.{rest_of}
use Rattle.space_heap.specs.SoundHeap.{IsSoundHeap}
use Rattle.space_heap.proofs.fields.FreeReads.{least_or_none}
use Rattle.space_heap.proofs.fields.SoundViews.{sound_read}
use Rattle.space_heap.proofs.heap.Heap.lowest_free.Goals as goal

pub returns-clause-lowest : goal.returns-clause-lowest
returns-clause-lowest c =
    let h = c.self.inside in
    subst (λ v. MatchOption c.lowest_free.result (HasNoFree v c.args.pool) (IsLeastFree v c.args.pool)) c.self.view_is
    (least_or_none h.pools h.marks.items (rest_of h) c.args.pool c.lowest_free.result c.lowest_free.ensures.sound c.requires c.lowest_free.ensures.lowest)

pub returns-clause-sound : goal.returns-clause-sound
returns-clause-sound c =
    let h = c.self.inside in
    subst IsSoundHeap c.self.view_is (sound_read h.pools h.marks.items (rest_of h) c.lowest_free.ensures.sound)
