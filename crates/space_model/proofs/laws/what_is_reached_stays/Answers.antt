use Rattle.space_model.proofs.PlacesAfter.{reached_present, reached_there, present_stays, pinned_stays, limit_stays}
use Rattle.space_model.proofs.VisibleLaws.{visible_reached, reached_visible}
use Rattle.space_model.proofs.WordsKept.{words_keep}
use Rattle.space_model.proofs.laws.what_is_reached_stays.Goals as goal

pub returns-clause-present : goal.returns-clause-present
returns-clause-present c = reached_present

pub returns-clause-visible : goal.returns-clause-visible
returns-clause-visible c = visible_reached

pub returns-clause-all_visible : goal.returns-clause-all_visible
returns-clause-all_visible c = reached_visible

pub returns-clause-stays : goal.returns-clause-stays
returns-clause-stays c = λ s t command outputs other l h name visible. reached_there s t command outputs l h other name (visible_reached s name visible)

pub returns-clause-places : goal.returns-clause-places
returns-clause-places c = present_stays

pub returns-clause-pinned : goal.returns-clause-pinned
returns-clause-pinned c = pinned_stays

pub returns-clause-words : goal.returns-clause-words
returns-clause-words c = words_keep

pub returns-clause-limit : goal.returns-clause-limit
returns-clause-limit c = limit_stays
