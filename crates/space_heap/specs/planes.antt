-- The planes of a page, and what calls make of them.
pub mod MarkPlanes
pub mod RecolouredMarks
pub mod SweptPlanes
pub mod CountedSlots
pub mod MovedMarks
pub mod PinnedMarks
