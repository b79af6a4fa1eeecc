pub mod Content
pub mod Stripe
pub mod Picture
pub mod Line
