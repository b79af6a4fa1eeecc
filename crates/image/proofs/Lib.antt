pub mod Made
mod Rows
pub mod Spelled
pub mod Sealing
pub mod Judging
mod Blank
pub mod Joining
pub mod Resealing
