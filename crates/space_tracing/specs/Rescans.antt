-- Scans of what was black before, in the order of addresses.
use Rattle.std.specs.Prelude.{◌≡◌, ℕ, Bool, ◌&&◌, List, [], nat_eq, nat_lt}
use Rattle.std.specs.Set.{is_member}
use Rattle.space_heap.specs.HeapView.{HeapView}
use Rattle.space_tracing.specs.Marking.{Marks}

-- from old to new the objects below the address that pass the test were scanned again, and no others
pub record ScansBelow (test : ℕ → Bool) (old new : HeapView) (words again : List ℕ) (from : ℕ) : Type 0 where
  pub marks : Marks old new words again []
  pub each : (a : ℕ) → is_member nat_eq again a ≡ (nat_lt a from && test a)
