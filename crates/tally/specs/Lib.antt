pub mod Kinds
pub mod Stripe
