pub mod Flat
pub mod Differences
