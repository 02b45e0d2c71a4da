mod starts
mod fields
mod updates
mod walks
pub mod Laws
pub mod ObjectLaws
pub mod NewPages
pub mod NewPageLaws
pub mod NewPageSlots
pub mod EmptyHeaps
mod PageCounts
mod CountedPages
mod CountedSlots
pub mod GoneCounts
pub mod NumberLists
pub mod MappedLaws
pub mod MarkingLaws
pub mod GenerationLaws
mod VisitLaws
mod RaisedAges
pub mod Coherence
pub mod SettledLaws
pub mod SweptLaws
pub mod MovedLaws
pub mod TakenLaws
pub mod FreeLaws
pub mod PhaseLaws
pub mod CursorLaws
pub mod PinLaws
pub mod SlotAddresses
pub mod FreedCounts
pub mod SweptPages
pub mod WaitingPages
pub mod GoneLaws
pub mod ObjectCounts
pub mod VacantLaws
pub mod RelocationLaws
pub mod EndedLaws
pub mod EndedPools
