use Rattle.std.proofs.Common.{subst}
use Rattle.space_pools.specs.PageSlots.{HoldsSlots}
use Rattle.space_pools.proofs.Pages.{holds}
use Rattle.space_pools.proofs.pool_page.PoolPage.words.Goals as goal

pub returns-clause-words : goal.returns-clause-words
returns-clause-words c = subst (λ q. HoldsSlots q c.self.inside.words) c.self.view_is (holds c.self.inside)
