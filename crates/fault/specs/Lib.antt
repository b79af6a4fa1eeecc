pub mod Equality
pub mod Refusing
pub mod Table
pub mod Text
