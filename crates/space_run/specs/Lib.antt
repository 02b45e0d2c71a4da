pub mod Replays
pub mod Progress
pub mod Ends
