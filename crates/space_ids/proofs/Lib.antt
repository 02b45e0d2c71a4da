pub mod IdsLemmas
pub mod ModelIds
