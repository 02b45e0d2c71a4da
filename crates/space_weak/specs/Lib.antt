pub mod WeakEntries
pub mod StoredEntries
pub mod Inside
