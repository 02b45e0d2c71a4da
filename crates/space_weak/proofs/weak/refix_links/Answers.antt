use Rattle.std.proofs.Common.{◌<◌, length, ap, arith}
use Rattle.indexmap.specs.IndexMap.{with_entries}
use Rattle.space_weak.specs.StoredEntries.{refixed_link}
use Rattle.space_weak.proofs.WalkLemmas.{changed-next}
use Rattle.space_weak.proofs.weak.refix_links.Goals as goal

pub loop-k-preserved : goal.loop-k-preserved
loop-k-preserved c =
    let k = c.loop-k.k in
    let is = c.loop-k.invariant in
    let old = c.args.links.now in
    let within : k < length old.entries = omega arith in
    rw (is, c.refixed_link_of.ensures)
    (ap (with_entries old) (changed-next (refixed_link c.args.heap.now) old.entries k c.index.result.now within (rw is at c.index.ensures)))
