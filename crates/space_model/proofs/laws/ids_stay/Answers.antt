use Rattle.space_model.proofs.TablesAfter.{ids_stay, ids_one}
use Rattle.space_model.proofs.laws.ids_stay.Goals as goal

pub returns-clause-stay : goal.returns-clause-stay
returns-clause-stay c = ids_stay

pub returns-clause-one : goal.returns-clause-one
returns-clause-one c = ids_one
