pub mod VerdictLaws
pub mod FirstPages
pub mod GoneWaits
