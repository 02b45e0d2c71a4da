use Rattle.std.proofs.Common.{◌<◌, sym, subst}
use Rattle.space_pools.specs.Free.{TakesLeast, HasNoFree}
use Rattle.space_heap.proofs.updates.WordLaws.{pool_known}
use Rattle.space_heap.proofs.updates.TakenSlots.{never, at_old, slot_used, new_slot}
use Rattle.space_heap.proofs.slot_allocation.allocate_slot.Goals as goal

pub take-requires : goal.take-requires
take-requires c = subst (λ p. p < 5) (sym c.pool_of.ensures.pool) (pool_known c.args.fields)

pub write_slot-requires-clause-used : goal.write_slot-requires-clause-used
write_slot-requires-clause-used c =
    let t = subst (λ p. TakesLeast c.args.pools.now c.take.new.self p c.in-Some.address) c.pool_of.ensures.pool c.in-Some.ensures.used in
    slot_used _ _ _ _ c.take.ensures.sound (pool_known c.args.fields) t _ _ c.in-Some-find_slot.ensures.place

pub unreachable-requires : goal.unreachable-requires
unreachable-requires c =
    let t = subst (λ p. TakesLeast c.args.pools.now c.take.new.self p c.in-Some.address) c.pool_of.ensures.pool c.in-Some.ensures.used in
    never _ _ _ _ c.take.ensures.sound (pool_known c.args.fields) t c.in-None-find_slot.ensures.place

pub returns-in-Some-find_slot-clause-at : goal.returns-in-Some-find_slot-clause-at
returns-in-Some-find_slot-clause-at c =
    let t = subst (λ p. TakesLeast c.args.pools.now c.take.new.self p c.in-Some.address) c.pool_of.ensures.pool c.in-Some.ensures.used in
    at_old _ _ _ _ c.take.ensures.sound (pool_known c.args.fields) t _ _ c.in-Some-find_slot.ensures.place

pub returns-in-Some-find_slot-clause-written : goal.returns-in-Some-find_slot-clause-written
returns-in-Some-find_slot-clause-written c =
    let t = subst (λ p. TakesLeast c.args.pools.now c.take.new.self p c.in-Some.address) c.pool_of.ensures.pool c.in-Some.ensures.used in
    new_slot _ _ _ _ c.take.ensures.sound (pool_known c.args.fields) t _ _ c.in-Some-find_slot.ensures.place _ _ _ _ c.write_slot.ensures

pub returns-in-None-clause-lowest : goal.returns-in-None-clause-lowest
returns-in-None-clause-lowest c = subst (HasNoFree c.args.pools.now) c.pool_of.ensures.pool c.in-None.ensures.lowest
