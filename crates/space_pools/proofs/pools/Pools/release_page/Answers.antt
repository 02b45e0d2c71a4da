use Rattle.std.proofs.Common.{◌≡◌, ◌<◌, false, length, sym, ap, ◌∙◌, subst, arith}
use Rattle.std.proofs.lemmas.List.{get_or_read}
use Rattle.space_pools.specs.PageSlots.{PageSlots, spare_page}
use Rattle.space_pools.specs.PoolsView.{PoolsView, page_at, unswept_at}
use Rattle.space_pools.specs.InsidePools.{view_from}
use Rattle.space_pools.proofs.Waiting.{one_if, byte_is, waiting_left}
use Rattle.std.proofs.lemmas.Grind.{common_steps}
use Rattle.space_pools.proofs.pools.Pools.release_page.Goals as goal

pub invariant_of-self : goal.invariant_of-self
invariant_of-self c =
    let v = view_from c.self.inside in
    let known = c.self.invariant in
    let here : c.args.page < length v.pages = subst (λ (v : PoolsView). c.args.page < length v.pages) (sym c.self.view_is) c.requires in
    let read : c.index.result.now ≡ page_at v c.args.page = get_or_read v.pages c.args.page c.index.result.now here c.index.ensures spare_page in
    let less : c.from.result ≡ one_if (unswept_at v c.args.page) =
    c.from.ensures ∙ byte_is c.unswept-waited.result ∙ ap one_if c.unswept-waited.ensures ∙ ap (λ (p : PageSlots). one_if p.unswept) read in
    let swept : c.release.new.self.unswept ≡ false = ap (λ (p : PageSlots). p.unswept) c.release.ensures in
    record {
      sound = grind (arith, common_steps);
      room = grind (arith, common_steps);
      spares = grind (arith, common_steps);
      waiting = waiting_left v c.args.page c.release.new.self here c.self.inside.first_unswept c.next_unswept-self-inside.result c.self.inside.unswept
          c.from.result swept c.next_unswept-self-inside.ensures less known.waiting;
      full = grind (arith, common_steps);
    }
