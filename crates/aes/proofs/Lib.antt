pub mod Expansion
pub mod Rows
pub mod Turns
pub mod Unpacked
