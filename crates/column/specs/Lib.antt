pub mod Scramble
pub mod Column
pub mod Window
