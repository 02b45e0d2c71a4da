-- What a command writes: its events, and then its answer.
use Rattle.std.specs.Prelude.{ℕ, List, [], ◌∷◌, ◌++◌}
use Rattle.space_model.specs.declared.event.Event.{Event}
use Rattle.space_model.specs.declared.event.Event.TheVariants.{Gone, Moved, Ran}
use Rattle.space_model.specs.declared.reply.Reply.{Reply}
use Rattle.space_model.specs.DumpLines.{DumpLine}

-- a line that is written: of an event, of an object in a dump, of an object that is shown with its stored words, or of a reply
pub data Output : Type 0 where
  Told : (event : Event) → Output
  Listed : (line : DumpLine) → Output
  Peeked : (address : ℕ) (words : List ℕ) → Output
  Replied : (reply : Reply) → Output

-- the name that an event tells to be gone, if it tells one
abbrev pub gone_of : Event → List ℕ
gone_of (Gone name) = name ∷ []
gone_of _ = []

-- the names that the outputs tell to be gone, in their order
abbrev pub gone_in : List Output → List ℕ
gone_in [] = []
gone_in (Told event ∷ outputs) = gone_of event ++ gone_in outputs
gone_in (_ ∷ outputs) = gone_in outputs

-- the finalizer that an event tells to have run, if it tells one
abbrev pub ran_of : Event → List (ℕ × List ℕ)
ran_of (Ran name label) = (name, label) ∷ []
ran_of _ = []

-- the finalizers that the outputs tell to have run, in their order
abbrev pub ran_in : List Output → List (ℕ × List ℕ)
ran_in [] = []
ran_in (Told event ∷ outputs) = ran_of event ++ ran_in outputs
ran_in (_ ∷ outputs) = ran_in outputs

-- the name that an event tells to be moved, if it tells one
abbrev pub moved_of : Event → List ℕ
moved_of (Moved name from to) = name ∷ []
moved_of _ = []

-- the names that the outputs tell to be moved, in their order
abbrev pub moved_in : List Output → List ℕ
moved_in [] = []
moved_in (Told event ∷ outputs) = moved_of event ++ moved_in outputs
moved_in (_ ∷ outputs) = moved_in outputs
