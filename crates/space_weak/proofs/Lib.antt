pub mod EntryLemmas
pub mod SetLemmas
pub mod WalkLemmas
pub mod EntryLaws
pub mod ModelEntries
