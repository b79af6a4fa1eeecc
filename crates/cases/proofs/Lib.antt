pub mod Pairs
pub mod Printing
pub mod Spelling
pub mod Cutting
pub mod Answering
