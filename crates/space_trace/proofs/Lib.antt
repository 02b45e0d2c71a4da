pub mod CrLemmas
pub mod WordLemmas
pub mod NumberLemmas
pub mod InputLemmas
pub mod HexLemmas
pub mod PieceLemmas
pub mod SpellingLemmas
pub mod ReadingLemmas
mod StatLemmas
pub mod StoredLemmas
