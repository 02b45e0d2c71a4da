use Rattle.space_model.proofs.CompactionKept.{Sound-moving_begun, Sound-fixing_begun, Sound-visited, Sound-compaction_ended}
use Rattle.space_model.proofs.MovesSound.{Sound-moved}
use Rattle.space_model.proofs.laws.compactions_are_sound.Goals as goal

pub returns-clause-begins : goal.returns-clause-begins
returns-clause-begins c = Sound-moving_begun

pub returns-clause-moved : goal.returns-clause-moved
returns-clause-moved c = Sound-moved

pub returns-clause-fixing : goal.returns-clause-fixing
returns-clause-fixing c = Sound-fixing_begun

pub returns-clause-visited : goal.returns-clause-visited
returns-clause-visited c = Sound-visited

pub returns-clause-ended : goal.returns-clause-ended
returns-clause-ended c = λ s fixing all h. Sound-compaction_ended s fixing h
