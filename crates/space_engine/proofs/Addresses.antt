-- The pools of objects, and the addresses of slots.
use Rattle.std.proofs.Common.{ℕ, ◌<◌, ◌≤◌, arith}
use Rattle.std.proofs.lemmas.Bool.Decides.{nat_tests}
use Rattle.space_model.specs.Layout.{page_slots, pool_for, slot_address, slot_bytes}

-- slots of a page rise
pub slot_address-rises : (page pool slot other : ℕ) → slot ≤ other → slot_address page pool slot ≤ slot_address page pool other
unfolding slot_address slot_bytes
slot_address-rises page pool slot other le = grind arith

-- the pool of so many fields is known
pub known_pool : (fields : ℕ) → pool_for fields < 5
unfolding pool_for
known_pool fields = grind (arith, nat_tests)

-- and its pages have slots
pub has_slot : (fields : ℕ) → 0 < page_slots (pool_for fields)
unfolding page_slots pool_for slot_bytes
has_slot fields = grind (arith, nat_tests)
