-- What holds of the trace language: spellings are read as their commands, and a line is at most one command.
use Rattle.std.specs.Prelude.{◌≡◌, ℕ, List, Option, Some}
use Rattle.space_model.specs.declared.command.Command.{Command}
use Rattle.space_model.specs.CommandTexts.{command_text}
use Rattle.space_model.specs.Given.{IsGiven}
use Rattle.space_model.specs.Grammar.{IsReading, Commands}

-- the spelling of a command, given what a line can give, is read as that command
abbrev pub SpellingsAreRead : Type 0
SpellingsAreRead = (command : Command) → IsGiven command → IsReading (command_text command) (Some command)

-- two commands, given what lines can give, have two spellings
abbrev pub SpellingsDiffer : Type 0
SpellingsDiffer = (a b : Command) → IsGiven a → IsGiven b → command_text a ≡ command_text b → a ≡ b

-- a line has at most one reading: it is blank, or it is one command
abbrev pub ReadingsAreOne : Type 0
ReadingsAreOne = (line : List ℕ) (a b : Option Command) → IsReading line a → IsReading line b → a ≡ b

-- an input is at most one list of commands
abbrev pub CommandsAreOne : Type 0
CommandsAreOne = (bytes : List ℕ) (a b : List Command) → Commands bytes a → Commands bytes b → a ≡ b
