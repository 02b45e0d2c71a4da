pub mod Gone
pub mod Sweeps
