-- Where slots start, by addresses.
pub mod Starts
pub mod PoolStarts
pub mod WordPlaces
pub mod FirstSlots
