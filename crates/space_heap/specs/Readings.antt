-- A reading of the fields of an object, one after another.
use Rattle.std.specs.Prelude.{◌≡◌, ℕ, ◌+◌, ◌<◌, ◌≤◌, slice_index_or, length}
use Rattle.space_heap.specs.HeapView.{HeapView}
use Rattle.space_heap.specs.Objects.{object_of}

-- the object's address, how many of its fields were read, and how many it has
pub record Reading : Type 0 where
  pub address : ℕ
  pub done : ℕ
  pub count : ℕ

-- the reading before the first field
abbrev pub reading_of : HeapView → ℕ → Reading
reading_of v a = record { address = a; done = 0; count = length (object_of v a).fields }

-- each field was read, and the reading stays as it is
pub record IsReadWhole (before after : Reading) : Type 0 where
  pub whole : before.count ≤ before.done
  pub same : after ≡ before

-- this is the word of the next field, which was read
pub record IsNextField (v : HeapView) (before after : Reading) (word : ℕ) : Type 0 where
  pub within : before.done < before.count
  pub is : word ≡ slice_index_or (object_of v before.address).fields before.done 0
  pub after_it : after ≡ record before { done = before.done + 1 }
