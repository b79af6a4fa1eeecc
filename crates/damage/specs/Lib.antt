pub mod Chain
pub mod Calls
pub mod Runs
pub mod Rasters
pub mod Ties
pub mod Damage
pub mod Worked
