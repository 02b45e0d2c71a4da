-- The words of slots, and where slots start.
pub mod ObjectWords
pub mod Shown
pub mod SlotPlaces
pub mod MovedWords
