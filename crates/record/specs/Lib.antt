pub mod Layout
pub mod Rules
pub mod Laws
pub mod Equality
