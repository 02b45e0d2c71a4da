pub mod FinalsLemmas
pub mod ModelFinals
