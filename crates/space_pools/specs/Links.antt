-- The words of free slots: the free slots of a page are a list in the order of their numbers (this project's own); and the words past the last slot.
use Rattle.std.specs.Prelude.{◌≡◌, ◌⊎◌, ℕ, ◌+◌, ◌<◌, ◌≤◌, Bool, true, false, List, [], ◌∷◌, Option, None, Some, slice_index_or, slice_set}
use Rattle.space_planes.specs.Planes.{bit}
use Rattle.space_pages.specs.Slots.{slots_end, slot_words, with_slot}

-- no slot past this one is free
abbrev pub IsLastFree : List Bool → ℕ → Type 0
IsLastFree free slot = (other : ℕ) → slot < other → bit free other ≡ false

-- the next free slot: the least one past this one
pub record IsNextFree (free : List Bool) (slot next : ℕ) : Type 0 where
  pub past : slot < next
  pub is_free : bit free next ≡ true
  pub least : (other : ℕ) → slot < other → other < next → bit free other ≡ false

-- the link of a free slot: 0 where it is the last one, and else 1 plus the number of the next one
abbrev pub IsLink : List Bool → ℕ → ℕ → Type 0
IsLink free slot link = (IsLastFree free slot × (link ≡ 0)) ⊎ ((next : ℕ) × IsNextFree free slot next × (link ≡ 1 + next))

-- the words of a free slot: first 0, then its link, then any
pub record IsLinked (free : List Bool) (slot : ℕ) (words : List ℕ) : Type 0 where
  pub link : ℕ
  pub rest : List ℕ
  pub begins : words ≡ 0 ∷ link ∷ rest
  pub is_link : IsLink free slot link

-- the words of a slot, on a page of this pool, if it has one
abbrev pub slot_on : Option ℕ → List ℕ → ℕ → List ℕ
slot_on None words slot = []
slot_on (Some pool) words slot = slot_words words pool slot

-- among these words of a page each free slot has its link
abbrev pub AreLinked : Option ℕ → List ℕ → List Bool → Type 0
AreLinked pool words free = (slot : ℕ) → bit free slot ≡ true → IsLinked free slot (slot_on pool words slot)

-- each word of a page past the last slot is 0; of a spare page nothing is said
abbrev pub IsClearPast : Option ℕ → List ℕ → Type 0
IsClearPast pool words = (its k : ℕ) → pool ≡ Some its → slots_end its ≤ k → slice_index_or words k 0 ≡ 0

-- the words of a page after the first two words of a free slot were written
abbrev pub with_link : List ℕ → ℕ → ℕ → ℕ → List ℕ
with_link page pool slot link = with_slot page pool slot (slice_set (slice_set (slot_words page pool slot) 0 0) 1 link)
