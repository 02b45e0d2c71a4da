use Rattle.std.proofs.Common.{◌<◌, ◌^◌}
use Rattle.space_trace.proofs.NumberLemmas.{IsReadTo}
use Rattle.space_trace.proofs.words.read_number.Given as goal

abbrev pub invariant-loop-b : goal.invariant-loop-b
invariant-loop-b l = record { read : IsReadTo l.text l.b-index l.number; fits : l.number < 2 ^ 64 }
