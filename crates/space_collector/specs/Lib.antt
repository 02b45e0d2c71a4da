pub mod GoneNames
pub mod Quiescent
pub mod HeapMoves
pub mod KindMarkings
pub mod HeapVerdicts
pub mod MovesWritten
pub mod PagesSwept
