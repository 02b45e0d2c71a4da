-- The graph of the objects: which object is a child of which, what is reached, and what a marking leaves as it is. Words aren't resolved,
-- so the address that an object left names none.
use Rattle.std.specs.Prelude.{◌≡◌, ◌⊎◌, ℕ, Bool, true, ◌&&◌, List, length, nat_eq}
use Rattle.std.specs.Set.{is_member}
use Rattle.space_model.specs.Reach.{IsReached}
use Rattle.space_heap.specs.HeapView.{HeapView, pool_at}
use Rattle.space_heap.specs.Objects.{is_occupied, is_object, is_moved, object_of, resolved}
use Rattle.space_heap.specs.FreeSlots.{is_free_at}
use Rattle.space_heap.specs.Marking.{whitened}
use Rattle.space_tracing.specs.Scans.{fields_of}

-- whether n is an object that a field of the object at m names
abbrev pub is_child : HeapView → ℕ → ℕ → Bool
is_child v m n = is_object v n && is_member nat_eq (fields_of v m) n

-- n is an object that a field of the object at m names
abbrev pub IsChild : HeapView → ℕ → ℕ → Type 0
IsChild v m n = is_child v m n ≡ true

-- an object that one of the words names
abbrev pub IsNamed : HeapView → List ℕ → ℕ → Type 0
IsNamed v words n = (is_object v n ≡ true) × (is_member nat_eq words n ≡ true)

-- an object that a root or a word of the stack names
abbrev pub IsStart : HeapView → List ℕ → List ℕ → ℕ → Type 0
IsStart v roots stack n = IsNamed v roots n ⊎ IsNamed v stack n

-- an object that is reached by children from the roots and the stack
abbrev pub IsLive : HeapView → List ℕ → List ℕ → ℕ → Type 0
IsLive v roots stack n = IsReached (IsChild v) (IsStart v roots stack) n

-- nothing changed but colours, remembered and kept marks, and the list of grey addresses
pub record SameGraph (old new : HeapView) : Type 0 where
  pub standing : (a : ℕ) → is_occupied new a ≡ is_occupied old a
  -- names, guards, styles, fields, ages, pins, and what is gone
  pub objects : (a : ℕ) → whitened (object_of new a) ≡ whitened (object_of old a)
  pub moves : (word : ℕ) → resolved new word ≡ resolved old word
  pub away : (a : ℕ) → is_moved new a ≡ is_moved old a
  pub free : (pool a : ℕ) → is_free_at new pool a ≡ is_free_at old pool a
  pub pools : (page : ℕ) → pool_at new page ≡ pool_at old page
  pub count : length new.pages ≡ length old.pages
  pub limit : new.limit ≡ old.limit
  pub unswept : new.unswept ≡ old.unswept
  pub phase : new.phase ≡ old.phase
  pub cursor : new.cursor ≡ old.cursor
  pub counters : new.counters ≡ old.counters
