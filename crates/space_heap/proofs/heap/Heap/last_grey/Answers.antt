use Rattle.std.proofs.Common.{◌*◌, subst}
use Rattle.space_heap.specs.Marking.{HasAtMost}
use Rattle.space_heap.specs.Inside.{rest_of}
use Rattle.space_heap.proofs.fields.SlotCounts.{few_in_all}
use Rattle.space_heap.proofs.heap.Heap.last_grey.Goals as goal

pub returns-clause-most : goal.returns-clause-most
returns-clause-most c = let h = c.self.inside in subst (λ v. HasAtMost v (1638 * 4096)) c.self.view_is
    (few_in_all h.pools h.marks.items (rest_of h) c.page_count.ensures.sound)
