use Rattle.space_model.proofs.MajorLaws.{completion_there, major_there, mark_there, finish_there}
use Rattle.space_model.proofs.laws.markings_are_there.Goals as goal

pub returns-clause-completed : goal.returns-clause-completed
returns-clause-completed c = completion_there

pub returns-clause-major : goal.returns-clause-major
returns-clause-major c = major_there

pub returns-clause-mark : goal.returns-clause-mark
returns-clause-mark c = mark_there

pub returns-clause-finish : goal.returns-clause-finish
returns-clause-finish c = finish_there
