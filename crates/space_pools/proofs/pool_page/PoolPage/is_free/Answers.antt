use Rattle.std.proofs.Common.{◌≡◌, sym, ◌∙◌, arith, false}
use Rattle.std.proofs.lemmas.Bool.Decides.{nat_tests}
use Rattle.std.proofs.lemmas.List.{get_or_past}
use Rattle.space_pools.specs.PageSlots.{free_in}
use Rattle.space_pools.proofs.Pages.{free_is}
use Rattle.space_pools.proofs.pool_page.PoolPage.is_free.Goals as goal

pub returns-then-s-len : goal.returns-then-s-len
returns-then-s-len c = rw (← c.self.view_is) (c.get.ensures ∙ sym (free_is c.self.inside c.args.s))

pub returns-else-s-len : goal.returns-else-s-len
returns-else-s-len c =
    let none : free_in c.args.self.now c.args.s ≡ false =
    rw (← c.self.view_is) (free_is c.self.inside c.args.s ∙ get_or_past c.self.inside.free c.args.s false (omega arith)) in
    grind (arith, nat_tests, none)
