pub mod HeapLines
pub mod LineEvents
pub mod Shown
