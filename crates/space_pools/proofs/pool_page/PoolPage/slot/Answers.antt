use Rattle.std.proofs.Common.{ap, sym, ◌∙◌, Some}
use Rattle.space_pools.specs.PageSlots.{used_in, found_in}
use Rattle.space_pools.proofs.Pages.{slot_within, found_on}
use Rattle.space_pools.proofs.pool_page.PoolPage.slot.Goals as goal

pub slot-requires-clause-slot : goal.slot-requires-clause-slot
slot-requires-clause-slot c = slot_within c.self.inside c.known.result c.args.s c.self.invariant c.known.ensures
    (ap (λ q. used_in q c.args.s) c.self.view_is ∙ c.requires)

pub returns-clause-words : goal.returns-clause-words
returns-clause-words c =
    sym (ap (λ q. found_in q c.args.s) c.self.view_is)
    ∙ found_on c.self.inside c.known.result c.args.s c.known.ensures (ap (λ q. used_in q c.args.s) c.self.view_is ∙ c.requires)
    ∙ ap Some (sym c.slot.ensures.words)
