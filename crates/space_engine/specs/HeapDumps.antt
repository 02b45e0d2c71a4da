-- The lines of a dump of a heap.
use Rattle.std.specs.Prelude.{ℕ, ◌≡◌, ◌≢◌, ◌⊎◌, ◌+◌, ◌*◌, List, [], ◌++◌, length, map, Option}
use Rattle.std.specs.List.{range_with_len, filter}
use Rattle.std.specs.Io.KnownBytes.{Appends}
use Rattle.space_model.specs.declared.reply.Reply.{Reply}
use Rattle.space_model.specs.declared.reply.Reply.TheVariants.{NoMemory, Dumped}
use Rattle.space_model.specs.Layout.{page_bytes}
use Rattle.space_model.specs.Outputs.{Output, Listed}
use Rattle.space_model.specs.Texts.{text_of}
use Rattle.space_dump.specs.HeapLines.{line_at}
use Rattle.space_heap.specs.HeapView.{HeapView}
use Rattle.space_heap.specs.Objects.{is_object}

-- the addresses below this one that name objects, ascending
unfoldable pub objects_below : HeapView → ℕ → List ℕ
objects_below v bound = filter (is_object v) (range_with_len 0 bound)

-- all of them: none is past the last page
abbrev pub object_addresses : HeapView → List ℕ
object_addresses v = objects_below v (page_bytes * (length v.pages + 1))

-- the lines of the objects at these addresses
abbrev pub lines_at : HeapView → List ℕ → List Output
lines_at v addresses = map (λ a. Listed (line_at v a)) addresses

-- the lines of some objects were written, the first in ascending order of address: of all, which the reply tells, or of those before one for whose
-- line there was no memory. The ledger's count rose by one for each that was begun
pub record AreListed (v : HeapView) (reply : Reply) (before after : Option (List ℕ)) (ticks ticked : ℕ) : Type 0 where
  pub listed : List ℕ
  pub others : List ℕ
  pub addresses : object_addresses v ≡ listed ++ others
  pub written : Appends before after (text_of (lines_at v listed))
  pub ends : ((others ≡ []) × (reply ≡ Dumped (length listed)) × (ticked ≡ ticks + length listed))
      ⊎ ((others ≢ []) × (reply ≡ NoMemory) × (ticked ≡ ticks + length listed + 1))
