pub mod Slab
pub mod Gather
pub mod Line
pub mod Stripe
pub mod Memory
