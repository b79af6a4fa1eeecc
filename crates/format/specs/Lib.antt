pub mod Formats
pub mod Carriers
