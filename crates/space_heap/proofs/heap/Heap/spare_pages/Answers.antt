use Rattle.std.proofs.Common.{ap, ◌∙◌}
use Rattle.space_heap.specs.NewPages.{spare_count}
use Rattle.space_heap.specs.Inside.{rest_of}
use Rattle.space_heap.proofs.NewPages.{spare_count_read}
use Rattle.space_heap.proofs.heap.Heap.spare_pages.Goals as goal

pub returns : goal.returns
returns c =
    let h = c.self.inside in
    c.spare_pages.ensures ∙ spare_count_read h.pools h.marks.items (rest_of h) ∙ ap spare_count c.self.view_is
