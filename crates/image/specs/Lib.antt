pub mod Table
pub mod Value
pub mod Image
pub mod Elements
pub mod Equality
