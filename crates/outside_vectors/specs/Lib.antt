pub mod Agrees
pub mod Messages
