pub mod QuiescentLaws
pub mod GoneLists
pub mod PageSweeps
pub mod SoundSweeps
pub mod RestLaws
pub mod GoneOnPages
pub mod HeapSweeps
pub mod AllSweeps
pub mod NeededSweeps
pub mod HeapVerdictLaws
pub mod ToldLines
mod KindMarkings
pub mod MoveLaws
mod MoveLines
pub mod MovingLaws
pub mod MoveEvents
