use Rattle.std.proofs.Common.{refl, ap, ◌∙◌, true, false, replicate, length, Some}
use Rattle.std.proofs.lemmas.List.{length-replicate}
use Rattle.space_pools.specs.declared.pool_page.PoolPage.TheInside.{Inside}
use Rattle.space_pools.proofs.Pages.{all_free}
use Rattle.space_pools.proofs.pool_page.PoolPage.give.Goals as goal

abbrev after : goal.After-self-3-1 → Inside
after c = record { words = c.put_links.new.words; pool = Some c.args.pool; free = c.fill.new.self; lowest = 0; unswept = false }

pub returns : goal.returns
returns c = all_free (after c) c.args.pool refl refl (c.fill.ensures
    ∙ ap (λ n. replicate n true) (ap length c.reset.ensures ∙ length-replicate c.slot_count.result false ∙ c.slot_count.ensures.count))
