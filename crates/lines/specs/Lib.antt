pub mod Words
pub mod Hex
pub mod Blanks
pub mod Answers
pub mod Lines
pub mod Laws
