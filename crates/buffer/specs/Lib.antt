pub mod Size
pub mod Cells
pub mod Word
pub mod Packed
