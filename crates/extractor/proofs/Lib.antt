pub mod Readings
pub mod Gatherings
pub mod Undoing
pub mod Deliveries
