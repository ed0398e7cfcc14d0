pub mod Answers
pub mod Calls
pub mod Format
pub mod Header
pub mod Kind
pub mod Places
pub mod Theorems
