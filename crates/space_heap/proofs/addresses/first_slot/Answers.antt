use Rattle.std.proofs.Common.{◌<◌, sym, subst, arith}
use Rattle.space_heap.proofs.starts.Starts.{some_bytes, few_bytes}
use Rattle.space_heap.proofs.starts.FirstSlots.{some_slots, near, far, ceiling}
use Rattle.space_heap.proofs.addresses.first_slot.Goals as goal

pub address_of-start-requires-clause-slot : goal.address_of-start-requires-clause-slot
address_of-start-requires-clause-slot c = some_slots c.args.pool c.requires.pool

pub returns-then-from-start : goal.returns-then-from-start
returns-then-from-start c = λ k within. near c.args.page c.args.pool c.args.from c.address_of-start.result k c.address_of-start.ensures (omega arith)

pub returns-then-from-start-gt65536 : goal.returns-then-from-start-gt65536
returns-then-from-start-gt65536 c = λ k within. far c.args.page c.args.pool c.args.from c.address_of-start.result k c.requires.pool within
    c.address_of-start.ensures (omega arith)

pub overflow_add-result : goal.overflow_add-result
overflow_add-result c = let b = few_bytes c.args.pool c.requires.pool in let e = c.slot_bytes-bytes.ensures in record { fits = omega arith }

pub nonzero_div-result : goal.nonzero_div-result
nonzero_div-result c = subst (λ n. 0 < n) (sym c.slot_bytes-bytes.ensures) (some_bytes c.args.pool c.requires.pool)

pub returns : goal.returns
returns c = λ k within. ceiling c.args.page c.args.pool c.args.from c.address_of-start.result c.slot_bytes-bytes.result k c.requires.pool
    c.slot_bytes-bytes.ensures c.address_of-start.ensures (omega arith)
