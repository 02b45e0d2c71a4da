use Rattle.space_model.proofs.FullLaws.{full_is_full, full_leaves, makes_none_same}
use Rattle.space_model.proofs.laws.full_is_full.Goals as goal

pub returns-clause-full : goal.returns-clause-full
returns-clause-full c = λ s t root fields guard style events e h. full_is_full s t fields events e h

pub returns-clause-leaves : goal.returns-clause-leaves
returns-clause-leaves c = λ s t root fields guard style events e h rests name there. full_leaves s t fields events e h rests name there

pub returns-clause-same : goal.returns-clause-same
returns-clause-same c = makes_none_same
