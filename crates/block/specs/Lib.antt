pub mod Code
pub mod Slab
