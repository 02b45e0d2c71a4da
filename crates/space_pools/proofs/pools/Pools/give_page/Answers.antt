use Rattle.std.proofs.Common.{◌<◌, length, sym, ap, ◌∙◌, subst}
use Rattle.space_pools.specs.PoolsView.{with_page}
use Rattle.space_pools.specs.Spare.{with_free_page}
use Rattle.space_pools.specs.InsidePools.{view_from}
use Rattle.space_pools.proofs.Kept.{own_page}
use Rattle.space_pools.proofs.pools.Pools.give_page.Goals as goal

pub returns : goal.returns
returns c =
    let v = view_from c.self.inside in
    ap (with_page v c.args.page) c.give.ensures
    ∙ sym (own_page v c.args.page c.args.pool (subst (λ v. c.args.page < length v.pages) (sym c.self.view_is) c.requires.spare.0))
    ∙ ap (λ v. with_free_page v c.args.page c.args.pool) c.self.view_is
