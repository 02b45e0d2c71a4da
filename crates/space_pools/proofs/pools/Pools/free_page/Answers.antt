use Rattle.std.proofs.Common.{◌≡◌, ℕ, ◌<◌, ◌≤◌, length, get_or, sym, ap, ◌∙◌, subst, arith, Some}
use Rattle.std.proofs.Math.Nat.{min-le_left, min-le_right}
use Rattle.std.proofs.lemmas.List.{get_or_read}
use Rattle.space_pools.specs.PageSlots.{PageSlots, spare_page, freed_in}
use Rattle.space_pools.specs.PoolsView.{PoolsView, page_at, pool_at, unswept_at}
use Rattle.space_pools.specs.InsidePools.{view_from}
use Rattle.space_pools.proofs.Waiting.{one_if, byte_is}
use Rattle.space_pools.proofs.Kept.{freed_pools}
use Rattle.space_pools.proofs.pools.Pools.free_page.Goals as goal

pub invariant_of-self : goal.invariant_of-self
invariant_of-self c =
    let v = view_from c.self.inside in
    let here : c.args.page < length v.pages = subst (λ (v : PoolsView). c.args.page < length v.pages) (sym c.self.view_is) c.requires.there in
    let its : pool_at v c.args.page ≡ Some c.in-Some.pool = ap (λ (v : PoolsView). pool_at v c.args.page) c.self.view_is ∙ sym c.page_pool.ensures.pool
    ∙ c.in-Some.is in
    let read : c.index_mut.result.now ≡ page_at v c.args.page =
    get_or_read v.pages c.args.page c.index_mut.result.now here c.index_mut.ensures.value spare_page in
    let cursor : ℕ = get_or c.self.inside.cursors c.in-Some.pool 0 in
    let five : c.in-Some.pool < 5 = (c.self.invariant.sound.sound c.args.page).known c.in-Some.pool its in
    let least = c.min.ensures in
    let less : c.from.result ≡ one_if (unswept_at v c.args.page) =
    c.from.ensures ∙ byte_is c.unswept.result ∙ ap one_if c.unswept.ensures
    ∙ ap (λ (p : PageSlots). one_if p.unswept) (get_or_read v.pages c.args.page c.index.result.now here c.index.ensures spare_page) in
    freed_pools c.self.inside c.args.page c.in-Some.pool c.min.result c.next_unswept-self-inside.result c.from.result c.args.free.now c.set_free.new.self c.self.invariant here its (omega arith)
    (subst (λ n. n ≤ cursor) (sym least) (min-le_right c.args.page cursor))
    (subst (λ n. n ≤ c.args.page) (sym least) (min-le_left c.args.page cursor))
    c.next_unswept-self-inside.ensures less
    (c.set_free.ensures ∙ ap (λ p. freed_in p c.args.free.now) read)
