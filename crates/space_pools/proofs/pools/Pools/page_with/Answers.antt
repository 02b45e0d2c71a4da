use Rattle.std.proofs.Common.{◌-◌, ◌/◌, ap, ◌∙◌, sym, arith, rules}
use Rattle.std.proofs.lemmas.List.{get_or_past}
use Rattle.space_pools.specs.PageSlots.{PageSlots, spare_page}
use Rattle.space_pools.specs.PoolsView.{pool_at}
use Rattle.space_pools.proofs.Places.{page_is}
use Rattle.space_pools.proofs.pools.Pools.page_with.Goals as goal

pub returns-then-page-from-clause-page : goal.returns-then-page-from-clause-page
returns-then-page-from-clause-page c = λ past. ap (λ k. pool_at c.args.self.now k) (sym (page_is c.args.address))
    ∙ ap (λ (p : PageSlots). p.pool) (get_or_past c.args.self.now.pages (c.args.address / 65536 - 1) spare_page (omega arith))

pub returns-in-Some-clause-page : goal.returns-in-Some-clause-page
returns-in-Some-clause-page c = record { past = omega arith; on = page_is c.args.address; its = search rules }

pub returns-in-None-clause-page : goal.returns-in-None-clause-page
returns-in-None-clause-page c = λ past. ap (λ k. pool_at c.args.self.now k) (sym (page_is c.args.address)) ∙ (search rules)
