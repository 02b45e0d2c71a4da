use Rattle.space_heap.proofs.updates.WordLaws.{pool_known}
use Rattle.space_heap.proofs.slot_allocation.pool_of.Goals as goal

pub returns-clause-known : goal.returns-clause-known
returns-clause-known c = rw c.in-Some.ensures.0 (pool_known c.args.fields)
