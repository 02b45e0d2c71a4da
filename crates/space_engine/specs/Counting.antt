-- What is counted of the outputs of commands.
use Rattle.std.specs.Prelude.{◌+◌, List, [], ◌∷◌}
use Rattle.space_model.specs.declared.event.Event.{Event}
use Rattle.space_model.specs.declared.event.Event.TheVariants.{Gone, Verdict, Moved, Ran}
use Rattle.space_model.specs.declared.reply.Reply.{Reply}
use Rattle.space_model.specs.declared.reply.Reply.TheVariants.{Made, Full, NoMemory, Refused}
use Rattle.space_model.specs.Outputs.{Output, Told, Listed, Peeked, Replied}
use Rattle.space_engine.specs.declared.counts.Counts.{Counts}

-- nothing was counted
abbrev pub no_counts : Counts
no_counts = record { objects = 0; gone = 0; moves = 0; finals = 0; full = 0; errors = 0; no_memory = 0 }

-- an object that was made, a reply `full` or `no memory`, and a refusal count; no other reply does
abbrev pub reply_counts : Reply → Counts
reply_counts (Made name address) = record no_counts { objects = 1 }
reply_counts Full = record no_counts { full = 1 }
reply_counts NoMemory = record no_counts { no_memory = 1 }
reply_counts (Refused why) = record no_counts { errors = 1 }
reply_counts _ = no_counts

-- each object that is gone or was moved and each finalizer that ran count
abbrev pub event_counts : Event → Counts
event_counts (Gone name) = record no_counts { gone = 1 }
event_counts (Verdict kind gone) = no_counts
event_counts (Moved name from to) = record no_counts { moves = 1 }
event_counts (Ran name label) = record no_counts { finals = 1 }

-- both together
abbrev pub sum_of_counts : Counts → Counts → Counts
sum_of_counts a b = record {
  objects = a.objects + b.objects;
  gone = a.gone + b.gone;
  moves = a.moves + b.moves;
  finals = a.finals + b.finals;
  full = a.full + b.full;
  errors = a.errors + b.errors;
  no_memory = a.no_memory + b.no_memory;
}

-- what is counted of an event or a reply; a shown object doesn't count
abbrev pub output_counts : Output → Counts
output_counts (Told event) = event_counts event
output_counts (Listed line) = no_counts
output_counts (Peeked address words) = no_counts
output_counts (Replied reply) = reply_counts reply

-- the sum over all outputs
abbrev pub counts_of : List Output → Counts
counts_of [] = no_counts
counts_of (output ∷ outputs) = sum_of_counts (output_counts output) (counts_of outputs)
