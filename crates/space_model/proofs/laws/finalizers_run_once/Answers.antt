use Rattle.space_model.proofs.FinalsAfter.{run_once, queue_stays, run_of_swept}
use Rattle.space_model.proofs.laws.finalizers_run_once.Goals as goal

pub returns-clause-once : goal.returns-clause-once
returns-clause-once c = run_once

pub returns-clause-stays : goal.returns-clause-stays
returns-clause-stays c = queue_stays

pub returns-clause-swept : goal.returns-clause-swept
returns-clause-swept c = run_of_swept
