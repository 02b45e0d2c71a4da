use Rattle.std.proofs.Common.{◌≡◌, ◌<◌, length, ap, ◌∙◌, arith}
use Rattle.std.proofs.lemmas.List.{get_or_read}
use Rattle.space_pools.specs.PageSlots.{PageSlots, spare_page}
use Rattle.space_pools.specs.PoolsView.{page_at, unswept_at}
use Rattle.space_pools.specs.InsidePools.{view_from}
use Rattle.space_pools.proofs.Waiting.{waiting_kept}
use Rattle.std.proofs.lemmas.Grind.{common_steps}
use Rattle.space_pools.proofs.pools.Pools.take_free_slot.Goals as goal

pub invariant_of-self : goal.invariant_of-self
invariant_of-self c =
    let v = view_from c.self.inside in
    let known = c.self.invariant in
    let here : c.args.page < length v.pages = grind (arith, common_steps) in
    let read : c.index_mut.result.now ≡ page_at v c.args.page =
    get_or_read v.pages c.args.page c.index_mut.result.now here c.index_mut.ensures.value spare_page in
    let same : c.take_slot.new.self.unswept ≡ unswept_at v c.args.page =
    ap (λ (p : PageSlots). p.unswept) c.take_slot.ensures.becomes ∙ ap (λ (p : PageSlots). p.unswept) read in
    record {
      sound = grind (arith, common_steps);
      room = grind (arith, common_steps);
      spares = grind (arith, common_steps);
      waiting = waiting_kept v c.args.page c.take_slot.new.self here c.self.inside.first_unswept c.self.inside.unswept same known.waiting;
      full = grind (arith, common_steps);
    }
