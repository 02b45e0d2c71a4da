use Rattle.space_model.proofs.ReachedLaws.{member-reached_names, reached_names-once}
use Rattle.space_model.proofs.NotedLaws.{noted-same, noted-stays}
use Rattle.space_model.proofs.laws.reach_is_listed.Goals as goal

pub returns-clause-listed : goal.returns-clause-listed
returns-clause-listed c = λ s name. member-reached_names s name

pub returns-clause-once : goal.returns-clause-once
returns-clause-once c = λ s. reached_names-once s

pub returns-clause-noted : goal.returns-clause-noted
returns-clause-noted c = λ s sound. noted-same s sound.moments

pub returns-clause-stays : goal.returns-clause-stays
returns-clause-stays c = noted-stays
