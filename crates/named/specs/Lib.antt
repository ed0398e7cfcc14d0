pub mod Names
pub mod Schemes
