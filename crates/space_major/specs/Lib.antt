pub mod Incremental
