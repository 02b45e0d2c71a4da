use Rattle.std.proofs.Common.{◌≡◌, ◌<◌, ◌≤◌, sym, ap, ◌∙◌, subst, arith}
use Rattle.space_pools.specs.PoolsView.{with_slot_at}
use Rattle.space_pools.proofs.PoolLaws.{found_from_used, used_from_found}
use Rattle.space_heap.specs.words.SlotPlaces.{IsSlotAt, SlotChanged}
use Rattle.space_heap.proofs.updates.TakenSlots.{never, kept_found, kept_pools, free_was, own_pool, at_old, slot_used, filled_slot}
use Rattle.space_heap.proofs.moves.take_copy.Goals as goal

pub take-requires : goal.take-requires
take-requires c = (c.page_count.ensures.sound.sound c.args.from_page).known c.args.pool c.requires.its

pub unreachable-requires : goal.unreachable-requires
unreachable-requires c =
    let known : c.args.pool < 5 = (c.page_count.ensures.sound.sound c.args.from_page).known c.args.pool c.requires.its in
    never _ _ _ _ c.page_count.ensures.sound known c.in-Some.ensures.used c.in-None-find_slot.ensures.place

pub unreachable-requires-in-None : goal.unreachable-requires-in-None
unreachable-requires-in-None c = c.in-None.ensures.lowest c.args.to c.requires.to.free

pub copy_slot-requires-clause-from : goal.copy_slot-requires-clause-from
copy_slot-requires-clause-from c =
    let known : c.args.pool < 5 = (c.page_count.ensures.sound.sound c.args.from_page).known c.args.pool c.requires.its in
    let f = found_from_used c.args.pools.now c.args.from_page c.args.from c.requires.from in
    used_from_found c.take.new.self c.args.from_page c.args.from f.0
    (kept_found _ _ _ _ c.page_count.ensures.sound known c.in-Some.ensures.used c.args.from_page c.args.from f.0 f.1)

pub copy_slot-requires-clause-to : goal.copy_slot-requires-clause-to
copy_slot-requires-clause-to c =
    let known : c.args.pool < 5 = (c.page_count.ensures.sound.sound c.args.from_page).known c.args.pool c.requires.its in
    slot_used _ _ _ _ c.page_count.ensures.sound known c.in-Some.ensures.used _ _ c.in-Some-find_slot.ensures.place

pub copy_slot-requires-clause-width : goal.copy_slot-requires-clause-width
copy_slot-requires-clause-width c =
    let known : c.args.pool < 5 = (c.page_count.ensures.sound.sound c.args.from_page).known c.args.pool c.requires.its in
    own_pool _ _ _ _ c.page_count.ensures.sound known c.in-Some.ensures.used _ _ c.in-Some-find_slot.ensures.place
    ∙ sym (kept_pools _ _ _ _ c.page_count.ensures.sound known c.in-Some.ensures.used c.args.from_page ∙ c.requires.its)

pub returns-clause-at : goal.returns-clause-at
returns-clause-at c =
    let known : c.args.pool < 5 = (c.page_count.ensures.sound.sound c.args.from_page).known c.args.pool c.requires.its in
    let low : c.in-Some.address ≤ c.args.to = c.in-Some.ensures.lowest.least c.args.to c.requires.to.free in
    let high : c.args.to ≤ c.in-Some.address = c.requires.to.least c.in-Some.address c.in-Some.ensures.lowest.free in
    let same : c.in-Some.address ≡ c.args.to = omega arith in
    subst (λ a. IsSlotAt c.args.pools.now a c.in-Some-find_slot.page c.in-Some-find_slot.slot) same
    (at_old _ _ _ _ c.page_count.ensures.sound known c.in-Some.ensures.used _ _ c.in-Some-find_slot.ensures.place)

pub returns-clause-free : goal.returns-clause-free
returns-clause-free c =
    let known : c.args.pool < 5 = (c.page_count.ensures.sound.sound c.args.from_page).known c.args.pool c.requires.its in
    free_was _ _ _ _ c.page_count.ensures.sound known c.in-Some.ensures.used _ _ c.in-Some-find_slot.ensures.place

pub returns-clause-copied : goal.returns-clause-copied
returns-clause-copied c =
    let known : c.args.pool < 5 = (c.page_count.ensures.sound.sound c.args.from_page).known c.args.pool c.requires.its in
    let f = found_from_used c.args.pools.now c.args.from_page c.args.from c.requires.from in
    let kept = kept_found _ _ _ _ c.page_count.ensures.sound known c.in-Some.ensures.used c.args.from_page c.args.from f.0 f.1 in
    subst (λ x. SlotChanged c.args.pools.now c.copy_slot.new.pools c.in-Some-find_slot.page c.in-Some-find_slot.slot x) (sym f.1)
    (filled_slot _ _ _ _ c.page_count.ensures.sound known c.in-Some.ensures.used _ _ c.in-Some-find_slot.ensures.place c.copy_slot.new.pools f.0
    (c.copy_slot.ensures ∙ ap (λ x. with_slot_at c.take.new.self c.in-Some-find_slot.page c.in-Some-find_slot.slot x) kept))
