pub mod Reading
pub mod Gather
pub mod Undoing
pub mod Delivery
