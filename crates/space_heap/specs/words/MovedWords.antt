-- The words of the pools at a move.
use Rattle.std.specs.Prelude.{◌≡◌, ℕ, List, slice_set, Option, option_map}
use Rattle.space_pools.specs.PoolsView.{PoolsView, found_at, with_slot_at}
use Rattle.space_heap.specs.words.SlotPlaces.{SlotChanged}

-- the words of a slot that an object left: 2, and its new address
abbrev pub forward_words : ℕ → Option (List ℕ) → Option (List ℕ)
forward_words to found = option_map (λ words. slice_set (slice_set words 0 2) 1 to) found

-- w is v after the words of a slot were copied to another one, and the slot that they left got the new address
pub record WordsMoved (v w : PoolsView) (page slot to_page to_slot to : ℕ) : Type 0 where
  -- the pools in between
  pub between : PoolsView
  pub copied : SlotChanged v between to_page to_slot (found_at v page slot)
  pub becomes : w ≡ with_slot_at between page slot (forward_words to (found_at between page slot))
