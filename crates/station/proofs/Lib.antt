pub mod Admits
pub mod Listed
pub mod Opens
pub mod Telling
pub mod Written
