-- What commands are given in the lines of a trace: idents, numbers below 2 ^ 64, and small integers below 2 ^ 62.
use Rattle.std.specs.Prelude.{List, [], ◌∷◌}
use Rattle.space_model.specs.declared.command.Command.{Command}
use Rattle.space_model.specs.CommandTexts.{AreWritable}
use Rattle.space_model.specs.Grammar.{form_of}

-- a line can give what the command is given: each word of its form can be written
abbrev pub IsGiven : Command → Type 0
IsGiven command = AreWritable (form_of command)

-- lines can give what the commands are given
abbrev pub AreGiven : List Command → Type 0
AreGiven [] = Unit {0}
AreGiven (command ∷ commands) = IsGiven command × AreGiven commands
