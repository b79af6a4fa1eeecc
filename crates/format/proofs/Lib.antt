pub mod Places
pub mod Pigeonhole
pub mod Carried
pub mod Lists
pub mod Whole
