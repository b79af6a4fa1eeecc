pub mod Count
pub mod Place
