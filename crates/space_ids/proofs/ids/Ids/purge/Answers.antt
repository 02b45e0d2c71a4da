use Rattle.std.proofs.Common.{◌<◌, ap, length, arith}
use Rattle.space_ids.specs.GivenIds.{still_kept}
use Rattle.space_ids.proofs.IdsLemmas.{changed-next, AreIds-written}
use Rattle.space_ids.proofs.ids.Ids.purge.Goals as goal

pub loop-k-preserved : goal.loop-k-preserved
loop-k-preserved c =
    let k = c.loop-k.k in
    let w = c.loop-k.invariant.written in
    let within : k < length c.args.self.now = omega (arith, ap length c.self.view_is) in
    record {
      written = rw (w, c.still_kept_in.ensures) (changed-next (still_kept c.args.heap.now) c.args.self.now k c.index.result.now within (rw w at c.index.ensures));
      ids = AreIds-written _ k c.still_kept_in.result c.loop-k.invariant.ids;
    }
