mod Zips
mod CountsUp
pub mod Bits
pub mod Counts
