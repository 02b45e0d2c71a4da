use Rattle.std.proofs.Common.{◌≡◌, refl, ap, ◌∙◌, true, false, replicate, length, get_or, Some}
use Rattle.std.proofs.lemmas.List.{length-replicate}
use Rattle.space_model.specs.Layout.{page_slots}
use Rattle.space_pages.proofs.SlotLaws.{get_or-zeroed_page}
use Rattle.space_pools.specs.declared.pool_page.PoolPage.TheInside.{Inside}
use Rattle.space_pools.proofs.Pages.{fresh, all_free}
use Rattle.space_pools.proofs.pool_page.PoolPage.new.Goals as goal

abbrev after : goal.After-put_links → Inside
after c = record { words = c.put_links.new.words; pool = Some c.args.pool; free = c.fill.new.self; lowest = 0; unswept = false }

free_is : (c : goal.After-put_links) → c.fill.new.self ≡ replicate (page_slots c.args.pool) true
free_is c = c.fill.ensures ∙ ap (λ n. replicate n true) (ap length c.in_ok-free.ensures ∙ length-replicate c.slot_count.result false
    ∙ c.slot_count.ensures.count)

pub invariant_of-result : goal.invariant_of-result
invariant_of-result c =
    let put = c.put_links.ensures in
    fresh (after c) c.args.pool refl c.requires (free_is c) refl put.whole put.linked
    (λ k h. put.past k h ∙ ap (λ words. get_or words k 0) c.in_ok-words.ensures ∙ get_or-zeroed_page k)

pub returns : goal.returns
returns c = all_free (after c) c.args.pool refl refl (free_is c)
