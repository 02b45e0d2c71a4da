-- What the loops need.
use Rattle.std.proofs.Common.{take}
use Rattle.std.proofs.lemmas.List.{take_all}
use Rattle.space_heap.proofs.ObjectLaws.{object_from_word, occupied_from_object, occupied_from_word}
use Rattle.space_tracing.proofs.Visits.{visited_all-none, visited_all-more}

pub ruleset visiting = (object_from_word, occupied_from_word)

pub ruleset reading = (visited_all-none, visited_all-more, take_all)

pub ruleset naming = (occupied_from_object)
