use Rattle.std.proofs.Common.{refl}
use Rattle.space_model.proofs.StatLaws.{counts_there, counts_same}
use Rattle.space_model.proofs.laws.counts_are_there.Goals as goal

pub returns-clause-possible : goal.returns-clause-possible
returns-clause-possible c = λ s h. let (stat, are) = counts_there s h in (stat, (are, refl))

pub returns-clause-one : goal.returns-clause-one
returns-clause-one c = counts_same
