use Rattle.space_trace.proofs.SpellingLemmas.{spelling_is_read}
use Rattle.space_trace.proofs.ReadingLemmas.{spellings_differ}
use Rattle.space_trace.proofs.laws.spellings_are_read.Goals as goal

pub returns : goal.returns
returns c = record { read = spelling_is_read; differ = spellings_differ }
