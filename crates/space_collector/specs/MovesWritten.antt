-- Moves that were made, and what was written of their lines.
use Rattle.std.specs.Prelude.{ℕ, List, map, Option, Result, OnOk, OnErr}
use Rattle.std.specs.Io.KnownBytes.{Appends}
use Rattle.space_io.specs.Sinks.{AppendsPrefix}
use Rattle.space_model.specs.declared.event.Event.{Event}
use Rattle.space_model.specs.Outputs.{Told}
use Rattle.space_model.specs.Texts.{text_of}
use Rattle.space_heap.specs.HeapView.{HeapView}
use Rattle.space_collector.specs.HeapMoves.{MovesTold}

-- a text was written, or a prefix of it where a write failed
pub record IsWritten {T E : Type 0} (result : Result T E) (before after : Option (List ℕ)) (text : List ℕ) : Type 0 where
  pub all : OnOk result (Appends before after text)
  pub prefix : OnErr result (AppendsPrefix before after text)

-- so many moves were made, and the lines that tell of them were written, or a prefix of these where a write failed
pub record AreMovesMade {T E : Type 0} (old new : HeapView) (moves : ℕ) (result : Result T E) (before after : Option (List ℕ)) : Type 0 where
  pub events : List Event
  pub makes : MovesTold moves old events new
  pub written : IsWritten result before after (text_of (map Told events))
