pub mod Minors
pub mod FirstScans
