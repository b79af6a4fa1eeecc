pub mod Seeds
pub mod Slabs
pub mod States
