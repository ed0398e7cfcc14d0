pub mod Bytes
pub mod Field
pub mod Num
pub mod Theorems
