use Rattle.std.proofs.Common.{length, sym, ap, ◌∙◌}
use Rattle.space_pools.specs.PageSlots.{PageSlots, free_in}
use Rattle.space_pools.proofs.Pages.{length-slots, free_is}
use Rattle.space_pools.proofs.pool_page.PoolPage.free_plane.Goals as goal

pub returns-clause-len : goal.returns-clause-len
returns-clause-len c = sym (length-slots c.self.inside) ∙ ap (λ (p : PageSlots). length p.slots) c.self.view_is

pub returns-clause-bits : goal.returns-clause-bits
returns-clause-bits c s = sym (free_is c.self.inside s) ∙ ap (λ p. free_in p s) c.self.view_is
