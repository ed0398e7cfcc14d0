pub mod Parts
pub mod Wraps
