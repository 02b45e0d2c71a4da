pub mod GivenIds
pub mod Inside
