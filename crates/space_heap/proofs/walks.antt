-- Walks over what stands at addresses.
pub mod PagePlaces
pub mod SlotWalks
pub mod WalkPlaces
pub mod LastSlots
