pub mod Fits
mod Writes
pub mod SlotLaws
