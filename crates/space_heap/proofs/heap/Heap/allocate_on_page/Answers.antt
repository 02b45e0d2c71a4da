use Rattle.std.proofs.Common.{◌≡◌, ap, refl, Err}
use Rattle.space_heap.specs.declared.heap.PlaceFault.{PlaceFault}
use Rattle.space_heap.specs.declared.heap.PlaceFault.TheVariants.{NoSlot}
use Rattle.space_heap.proofs.updates.PageAllocations.{count_kept, has_free, allocated_on_page}
use Rattle.space_heap.proofs.heap.Heap.allocate_on_page.Goals as goal

only_fault : (fault : PlaceFault) → fault ≡ NoSlot
only_fault NoSlot = refl

pub place-requires-clause-names : goal.place-requires-clause-names
place-requires-clause-names c = count_kept c.args.self.now _ _ _ c.in_ok-add_page.ensures.added c.requires.names

pub unreachable-requires : goal.unreachable-requires
unreachable-requires c = has_free c.args.self.now _ c.args.fields _ _ c.in_ok-add_page.ensures.next c.in_ok-add_page.ensures.empty
    c.in_ok-add_page.ensures.swept c.pool_of.ensures.pool c.in_ok-add_page.ensures.added
    (c.in-Err-NoSlot.ensures.full.0 (ap Err (only_fault c.in-Err-NoSlot.field-0)))

pub returns-clause-allocated : goal.returns-clause-allocated
returns-clause-allocated c =
    allocated_on_page c.args.self.now _ _ c.args.fields c.args.guard c.args.style _ _ _ _ c.requires.none c.in_ok-add_page.ensures.next
    c.in_ok-add_page.ensures.empty c.in_ok-add_page.ensures.swept c.pool_of.ensures.pool c.in_ok-add_page.ensures.added c.in-Ok.ensures.lowest
    c.in-Ok.ensures.name c.in-Ok.ensures.placed
