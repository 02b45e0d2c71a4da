use Rattle.std.proofs.Common.{◌<◌, sym, subst}
use Rattle.space_heap.proofs.starts.Starts.{some_bytes}
use Rattle.space_heap.proofs.starts.WordPlaces.{on_page}
use Rattle.space_heap.proofs.addresses.slot_of.Goals as goal

pub unreachable-requires : goal.unreachable-requires
unreachable-requires c = on_page c.args.pools.now c.args.address c.page_with.ensures.sound c.requires c.in-None.ensures.page

pub nonzero_div-result : goal.nonzero_div-result
nonzero_div-result c = subst (λ n. 0 < n) (sym c.slot_bytes.ensures) (some_bytes c.in-Some.pool
    ((c.page_with.ensures.sound.sound c.in-Some.page).known c.in-Some.pool c.in-Some.ensures.page.its))
