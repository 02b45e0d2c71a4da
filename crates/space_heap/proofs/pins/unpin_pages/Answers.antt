use Rattle.std.proofs.Common.{◌∙◌, arith}
use Rattle.std.proofs.lemmas.List.{length-set}
use Rattle.std.proofs.lemmas.List.Edits.{map_over_more}
use Rattle.space_heap.specs.planes.PinnedMarks.{unpinned_marks}
use Rattle.space_heap.proofs.pins.unpin_pages.Goals as goal

pub loop-page-preserved : goal.loop-page-preserved
loop-page-preserved c =
    let l = c.loop-page.invariant.len in
    let n = c.loop-page.marks.ok.0 in
    let e = c.len-page-end.ensures in
    record {
      items = rw c.unpin.ensures (map_over_more unpinned_marks c.args.marks.now.items c.loop-page.marks.items c.loop-page.page c.index_mut.result.now
          (omega arith) c.loop-page.invariant.items c.index_mut.ensures.value);
      len = length-set c.loop-page.marks.items c.loop-page.page c.unpin.new.self ∙ l;
      room = c.loop-page.invariant.room;
    }
