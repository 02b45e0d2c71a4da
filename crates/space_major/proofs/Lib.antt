mod Wholes
pub mod Starts
mod UnprotectedScans
mod Finishes
