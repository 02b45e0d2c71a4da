pub mod Scans
pub mod Graph
pub mod Marking
pub mod Rescans
