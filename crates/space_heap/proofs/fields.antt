-- What the fields of a heap tell of its view.
pub mod Views
pub mod Readers
pub mod Here
pub mod Unswept
pub mod FreeReads
pub mod SoundViews
pub mod SlotCounts
pub mod MovedHere
