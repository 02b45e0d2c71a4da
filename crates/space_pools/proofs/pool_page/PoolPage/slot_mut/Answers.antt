use Rattle.std.proofs.Common.{ap, sym, refl, ◌∙◌, Some}
use Rattle.space_pools.specs.PageSlots.{used_in, found_in, width_of, written_in}
use Rattle.space_pages.proofs.SlotLaws.{length-with_slot}
use Rattle.space_pools.proofs.Pages.{slot_within, found_on, lent, linked_after_loan, clear_after_loan}
use Rattle.space_pools.proofs.pool_page.PoolPage.slot_mut.Goals as goal

pub slot_within-requires-clause-slot : goal.slot_within-requires-clause-slot
slot_within-requires-clause-slot c = slot_within c.self.inside c.known-pool.result c.args.s c.self.invariant c.known-pool.ensures
    (ap (λ q. used_in q c.args.s) c.self.view_is ∙ c.requires)

pub returns : goal.returns
returns c =
    let p = c.self.inside in
    let s = c.args.s in
    let used = ap (λ q. used_in q s) c.self.view_is ∙ c.requires in (
      (refl, λ w. lent p c.known-pool.result s w c.self.invariant c.known-pool.ensures used ∙ ap (λ q. written_in q s w) c.self.view_is),
      record {
        writes_back = tt;
        words = sym (ap (λ q. found_in q s) c.self.view_is) ∙ found_on p c.known-pool.result s c.known-pool.ensures used
            ∙ ap Some (sym c.slot_within.ensures.words);
        len = c.slot_within.ensures.len ∙ sym (ap width_of c.known-pool.ensures) ∙ ap (λ q. width_of q.pool) c.self.view_is;
      },
    )

pub invariant_of-self-lent : goal.invariant_of-self-lent
invariant_of-self-lent c = λ w.
    let p = c.self.inside in
    let known = c.self.invariant in
    let used = ap (λ q. used_in q c.args.s) c.self.view_is ∙ c.requires in
    record {
      whole = length-with_slot p.words c.known-pool.result c.args.s _ ∙ known.whole;
      known = known.known;
      long = known.long;
      within = known.within;
      clear_below = known.clear_below;
      set_at = known.set_at;
      clear_past = clear_after_loan p c.known-pool.result c.args.s w known c.known-pool.ensures used;
      linked = linked_after_loan p c.known-pool.result c.args.s w known c.known-pool.ensures used;
    }
