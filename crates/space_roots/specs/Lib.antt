pub mod WordRoots
