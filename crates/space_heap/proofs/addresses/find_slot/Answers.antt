use Rattle.std.proofs.Common.{◌∙◌}
use Rattle.space_heap.proofs.starts.PoolStarts.{off_pages, start_read, slot_found}
use Rattle.space_heap.proofs.addresses.find_slot.Goals as goal

pub returns-in-Some-slot_start-clause-place : goal.returns-in-Some-slot_start-clause-place
returns-in-Some-slot_start-clause-place c =
    let at = c.in-Some.ensures.page in
    slot_found c.args.pools.now c.args.word c.in-Some.page c.in-Some.pool _ c.page_with.ensures.sound at.on at.its c.in-Some-slot_start.ensures.0
    c.in-Some-slot_start.ensures.1

pub returns-in-None-slot_start-clause-place : goal.returns-in-None-slot_start-clause-place
returns-in-None-slot_start-clause-place c =
    let at = c.in-Some.ensures.page in
    start_read c.args.pools.now c.args.word _ _ c.page_with.ensures.sound at.on at.its ∙ c.in-None-slot_start.ensures

pub returns-in-None-clause-place : goal.returns-in-None-clause-place
returns-in-None-clause-place c = off_pages c.args.pools.now c.args.word c.page_with.ensures.sound c.in-None.ensures.page
