-- What each call makes of the fields, and of the view.
pub mod WordLaws
pub mod Changes
pub mod Writes
pub mod TakenSlots
pub mod Placed
pub mod PageAllocations
pub mod RecolouredSlots
pub mod NotedSlots
pub mod UnmarkedSlots
pub mod PinnedSlots
pub mod OldMarkedSlots
pub mod SettledSlots
pub mod SweptSlots
pub mod Relocated
pub mod EndedSlots
pub mod EndedPages
