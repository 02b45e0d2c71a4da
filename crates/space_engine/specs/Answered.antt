-- A command that was answered: with its events written, or with all its outputs; or with a prefix of them.
use Rattle.std.specs.Prelude.{◌≡◌, ℕ, List, map, Option}
use Rattle.std.specs.Io.KnownBytes.{Appends}
use Rattle.space_io.specs.Sinks.{AppendsPrefix}
use Rattle.space_model.specs.declared.command.Command.{Command}
use Rattle.space_model.specs.declared.event.Event.{Event}
use Rattle.space_model.specs.declared.reply.Reply.{Reply}
use Rattle.space_model.specs.Outputs.{Output, Told}
use Rattle.space_model.specs.Spelling.{IsSpelled}
use Rattle.space_model.specs.State.{State}
use Rattle.space_model.specs.Texts.{AreSpelled, text_of, reply_pieces}
use Rattle.space_engine.specs.declared.counts.Counts.{Counts}
use Rattle.space_engine.specs.Counting.{no_counts, counts_of}
use Rattle.space_engine.specs.Stands.{Holds}
use Rattle.space_engine.specs.Steps.{AnswersWith, Gives, AreDone}
use Rattle.space_engine.specs.Ticks.{IsTicked}
use Rattle.space_engine.specs.Views.{View}

-- the events and the reply are lawful from each state that the view holds, and the events can be spelled
pub record IsLawfulAnswer (old new : View) (command : Command) (events : List Event) (reply : Reply) : Type 0 where
  pub answers : (s : State) → Holds old s → AnswersWith s new command events reply
  pub spelled : (s : State) → Holds old s → AreSpelled (map Told events)

-- some events and the reply are lawful, the events were written, they tell of so many gone objects and moves, and the ledger's count rose as they tell
pub record IsAnswered (old new : View) (command : Command) (reply : Reply) (gone moves : ℕ) (before after : Option (List ℕ)) (ticks ticked : ℕ) : Type 0 where
  pub events : List Event
  pub lawful : IsLawfulAnswer old new command events reply
  pub counted : counts_of (map Told events) ≡ record no_counts { gone = gone; moves = moves }
  pub written : Appends before after (text_of (map Told events))
  pub ticks_are : (s : State) → Holds old s → IsTicked s command events reply ticks ticked

-- some events and a reply that can be spelled are lawful, and a prefix of the text of the events was written
pub record IsCutOff (old new : View) (command : Command) (before after : Option (List ℕ)) : Type 0 where
  pub events : List Event
  pub reply : Reply
  pub lawful : IsLawfulAnswer old new command events reply
  pub reply_spelled : IsSpelled (reply_pieces reply)
  pub prefix : AppendsPrefix before after (text_of (map Told events))

-- the outputs are lawful from each state that the view holds, and they can be spelled
pub record AreLawful (old new : View) (command : Command) (outputs : List Output) : Type 0 where
  pub gives : (s : State) → Holds old s → Gives s new command outputs
  pub spelled : (s : State) → Holds old s → AreSpelled outputs

-- some outputs are lawful, they were counted and written, and the ledger's count rose as they tell
pub record IsWritten (old new : View) (command : Command) (counts : Counts) (before after : Option (List ℕ)) (ticks ticked : ℕ) : Type 0 where
  pub outputs : List Output
  pub lawful : AreLawful old new command outputs
  pub done : (s : State) → Holds old s → AreDone s command counts before after ticks ticked outputs

-- some outputs are lawful, and a prefix of their text was written
pub record IsWrittenInPart (old new : View) (command : Command) (before after : Option (List ℕ)) : Type 0 where
  pub outputs : List Output
  pub lawful : AreLawful old new command outputs
  pub prefix : AppendsPrefix before after (text_of outputs)
