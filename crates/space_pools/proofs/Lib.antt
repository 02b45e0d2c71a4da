mod Pages
mod Written
mod Linked
mod LinkWords
mod Kept
pub mod Waiting
pub mod Freed
pub mod Places
pub mod PoolLaws
