-- What the pools are after a slot of theirs was lent.
use Rattle.std.specs.Prelude.{ℕ, List}
use Rattle.std.specs.Borrow.{Lends, MutBor, Array, Fml, u64}
use Rattle.space_pools.specs.PoolsView.{PoolsView, written_at}
use Rattle.space_pools.specs.contracts.pools.Pools.{the_row}

-- the pools end with the words that are left behind the result, from the start of that slot on
abbrev pub LendsSlot : MutBor PoolsView → ℕ → ℕ → MutBor (List ℕ) → Fml
LendsSlot pools page slot result = Lends the_row (Array u64 0) pools result (written_at pools.now page slot)
