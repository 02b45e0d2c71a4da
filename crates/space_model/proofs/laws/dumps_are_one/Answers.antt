use Rattle.space_model.proofs.DumpLaws.{dump_there, dump_one}
use Rattle.space_model.proofs.laws.dumps_are_one.Goals as goal

pub returns-clause-possible : goal.returns-clause-possible
returns-clause-possible c = dump_there

pub returns-clause-one : goal.returns-clause-one
returns-clause-one c = dump_one
