pub mod Picture
pub mod Report
