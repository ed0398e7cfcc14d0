pub mod Horner
pub mod Laws
pub mod Product
pub mod Spelling
pub mod Words
