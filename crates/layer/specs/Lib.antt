pub mod Parts
pub mod Field
pub mod Window
pub mod Neighbours
