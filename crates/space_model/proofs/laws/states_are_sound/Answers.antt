use Rattle.space_model.proofs.InputsGiven.{commands_given}
use Rattle.space_model.proofs.SoundKept.{Sound-opening, lawful_sound, lawful_all_sound}
use Rattle.space_model.proofs.laws.states_are_sound.Goals as goal

pub returns-clause-opening : goal.returns-clause-opening
returns-clause-opening c = Sound-opening

pub returns-clause-command : goal.returns-clause-command
returns-clause-command c = lawful_sound

pub returns-clause-commands : goal.returns-clause-commands
returns-clause-commands c = lawful_all_sound

pub returns-clause-given : goal.returns-clause-given
returns-clause-given c = commands_given
