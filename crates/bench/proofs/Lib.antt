pub mod Gathers
pub mod Stripes
pub mod Memories
