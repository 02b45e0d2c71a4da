-- What the line of a dump sends to a `Serializer`. The keys are this project's own, after those of CRuby's ObjectSpace.dump_all.
use Rattle.std.specs.Prelude.{◌≡◌, ℕ, None, Some, List, [], ◌∷◌, ◌++◌, codes}
use Rattle.serde.specs.Event as event
use Rattle.serde.specs.Event.{Event, Log, Logs}
use Rattle.serde.specs.declared.name.Case.TheVariants.{AsIs}
use Rattle.space_model.specs.DumpLines.{DumpLine}
use Rattle.space_model.specs.Spelling.{hex}
use Rattle.space_model.specs.Texts.{style_text}

-- each event is sent in turn
abbrev pub SendsAll : List Event → Log → Log → Type 0
SendsAll [] old new = new ≡ old
SendsAll (e ∷ es) old new = (mid : Log) × Logs old mid e × SendsAll es mid new

-- the name of a member
abbrev pub key : List ℕ → Event
key name = event.field_key name AsIs

-- the flags, as an object
abbrev pub flag_events : DumpLine → List Event
flag_events line =
    event.map_begins (Some 3) ∷ key (codes "old") ∷ event.boolean line.old ∷ key (codes "style") ∷ event.text (style_text line.style)
    ∷ key (codes "wb_protected") ∷ event.boolean line.wb_protected ∷ event.map_ends ∷ []

-- what stands before the flags
abbrev pub first_events : DumpLine → List Event
first_events line = event.map_begins (Some 7) ∷ key (codes "address") ∷ event.text (hex line.address) ∷ key (codes "fields") ∷ event.unsigned line.fields ∷ key (codes "flags") ∷ []

-- what stands between the flags and the first reference
abbrev pub name_events : DumpLine → List Event
name_events line = key (codes "name") ∷ event.unsigned line.name ∷ key (codes "references") ∷ event.seq_begins None ∷ []

-- the references, and the end of their array
abbrev pub reference_events : List ℕ → List Event
reference_events [] = event.seq_ends ∷ []
reference_events (address ∷ addresses) = event.text (hex address) ∷ reference_events addresses

-- what stands after the references
abbrev pub last_events : DumpLine → List Event
last_events line = key (codes "slot_size") ∷ event.unsigned line.slot_size ∷ key (codes "type") ∷ event.text (codes "OBJECT") ∷ event.map_ends ∷ []

-- a line
abbrev pub line_events : DumpLine → List Event
line_events line = first_events line ++ (flag_events line ++ (name_events line ++ (reference_events line.references ++ last_events line)))
