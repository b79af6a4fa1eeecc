mod Fields
mod Rows
mod Signs
mod Values
mod Widths
pub mod Undoing
