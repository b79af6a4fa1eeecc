pub mod Answers
pub mod Digits
pub mod Lines
pub mod Numbers
pub mod Reading
pub mod Stop
pub mod Text
pub mod Words
