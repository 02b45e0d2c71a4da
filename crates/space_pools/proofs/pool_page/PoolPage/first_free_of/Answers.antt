use Rattle.std.proofs.Common.{◌∙◌, arith, rules}
use Rattle.space_pools.proofs.Pages.{free_is, full_from}
use Rattle.space_pools.proofs.pool_page.PoolPage.first_free_of.Goals as goal

pub returns-in-Some : goal.returns-in-Some
returns-in-Some c = rw (← c.self.view_is) (
  search rules,
  record {
    is_swept = search rules;
    is_free = free_is c.self.inside c.self.inside.lowest ∙ c.self.invariant.set_at (omega arith);
    below = λ k h. free_is c.self.inside k ∙ c.self.invariant.clear_below k h;
  },
)

pub returns-in_default : goal.returns-in_default
returns-in_default c = rw (← c.self.view_is) (λ its slot swept. free_is c.self.inside slot ∙ full_from c.self.inside slot c.self.invariant (omega arith))
