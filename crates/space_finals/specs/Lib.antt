pub mod FinalLists
pub mod StoredFinals
pub mod Inside
