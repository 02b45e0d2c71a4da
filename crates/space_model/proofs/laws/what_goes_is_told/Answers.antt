use Rattle.space_model.proofs.PlacesAfter.{lawful_told, lawful_order, lawful_once, gone_stay}
use Rattle.space_model.proofs.laws.what_goes_is_told.Goals as goal

pub returns-clause-told : goal.returns-clause-told
returns-clause-told c = lawful_told

pub returns-clause-order : goal.returns-clause-order
returns-clause-order c = lawful_order

pub returns-clause-once : goal.returns-clause-once
returns-clause-once c = lawful_once

pub returns-clause-stays : goal.returns-clause-stays
returns-clause-stays c = gone_stay
