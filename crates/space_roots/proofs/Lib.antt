pub mod RootLemmas
pub mod RootValues
