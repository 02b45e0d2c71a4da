use Rattle.space_trace.proofs.ReadingLemmas.{readings_same, commands_same}
use Rattle.space_trace.proofs.laws.readings_are_one.Goals as goal

pub returns : goal.returns
returns c = record { line = readings_same; input = commands_same }
