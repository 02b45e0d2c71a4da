use Rattle.space_pools.proofs.Places.{place_limited, place_within, least_place}
use Rattle.space_pools.proofs.pools.Pools.lowest_free.Goals as goal

pub address_of-requires-clause-page : goal.address_of-requires-clause-page
address_of-requires-clause-page c = place_limited _ _ _ _ c.lowest_free_slot.ensures.sound c.requires c.in-Some.ensures.place

pub address_of-requires-clause-slot : goal.address_of-requires-clause-slot
address_of-requires-clause-slot c = place_within _ _ _ _ c.lowest_free_slot.ensures.sound c.requires c.in-Some.ensures.place

pub returns-in-Some-clause-lowest : goal.returns-in-Some-clause-lowest
returns-in-Some-clause-lowest c = least_place _ _ _ _ c.lowest_free_slot.ensures.sound c.requires c.in-Some.ensures.place _ c.address_of.ensures
