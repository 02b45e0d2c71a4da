-- The commands on finalizers: `final`, `unfinal` and `run`. That a finalizer runs once, after its object is gone, is CRuby's (3.3,
-- `ObjectSpace.define_finalizer`); that it waits in a queue until a command runs it is this project's own.
use Rattle.std.specs.Prelude.{◌≡◌, ◌⊎◌, ℕ, List, [], ◌∷◌, ◌++◌, length, map, take, drop, Result, Ok, Err}
use Rattle.space_model.specs.declared.command.Operand.{Operand}
use Rattle.space_model.specs.declared.event.Event.{Event}
use Rattle.space_model.specs.declared.event.Event.TheVariants.{Ran}
use Rattle.space_model.specs.declared.reply.Refusal.{Refusal}
use Rattle.space_model.specs.declared.reply.Reply.{Reply}
use Rattle.space_model.specs.declared.reply.Reply.TheVariants.{NoMemory, Done, Removed, RanCount}
use Rattle.space_model.specs.Finalizers.{labels_of, without_name}
use Rattle.space_model.specs.Operands.{object_of}
use Rattle.space_model.specs.Refusals.{Refuses}
use Rattle.space_model.specs.State.{State}

-- these finalizers are defined
abbrev pub finals_replaced : State → List (ℕ × List ℕ) → State
finals_replaced s finals = record s { tables = record s.tables { finals = finals } }

-- these finalizers wait to run
abbrev pub queue_replaced : State → List (ℕ × List ℕ) → State
queue_replaced s queue = record s { tables = record s.tables { queue = queue } }

-- what `final` answers to the name, or to the refusal that was found instead. There may be no memory for the finalizer and for its place in
-- the queue, and then nothing is changed
abbrev pub FinalReply : State → List ℕ → Result ℕ Refusal → Reply → State → Type 0
FinalReply s label (Ok name) reply t =
    ((reply ≡ Done) × (t ≡ finals_replaced s (s.tables.finals ++ (name, label) ∷ []))) ⊎ ((reply ≡ NoMemory) × (t ≡ s))
FinalReply s label (Err why) reply t = Refuses s why reply t

-- `final`: the object has one finalizer more, which comes after its others
abbrev pub DefinesFinal : State → Operand → List ℕ → Reply → State → Type 0
DefinesFinal s object label reply t = FinalReply s label (object_of s object) reply t

-- what `unfinal` answers to the name, or to the refusal that was found instead
abbrev pub UnfinalReply : State → Result ℕ Refusal → Reply → State → Type 0
UnfinalReply s (Ok name) reply t =
    (reply ≡ Removed (length (labels_of s.tables.finals name))) × (t ≡ finals_replaced s (without_name s.tables.finals name))
UnfinalReply s (Err why) reply t = Refuses s why reply t

-- `unfinal`: the object has no finalizers any more
abbrev pub TakesFinals : State → Operand → Reply → State → Type 0
TakesFinals s object reply t = UnfinalReply s (object_of s object) reply t

-- the events of finalizers that run, in this order
abbrev pub ran_events : List (ℕ × List ℕ) → List Event
ran_events pairs = map (λ (pair : ℕ × List ℕ). Ran pair.0 pair.1) pairs

-- `run`: so many finalizers that wait run, the oldest first, or all where fewer wait, and they wait no more
abbrev pub RunsFinals : State → ℕ → List Event → Reply → State → Type 0
RunsFinals s count events (RanCount ran) t =
    (events ≡ ran_events (take count s.tables.queue)) × (ran ≡ length (take count s.tables.queue))
    × (t ≡ queue_replaced s (drop count s.tables.queue))
RunsFinals s count events _ t = ⊥
