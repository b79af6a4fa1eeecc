pub mod Meaning
pub mod Difference
