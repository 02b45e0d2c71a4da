pub mod Same
pub mod Visits
pub mod AgedVisits
pub mod Scans
pub mod Noted
pub mod Steps
pub mod Bundles
pub mod Ends
pub mod Rescanned
mod FieldVisits
mod Inside
