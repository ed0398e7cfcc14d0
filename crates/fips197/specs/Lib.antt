pub mod Bytes
pub mod Cipher
pub mod Field
pub mod KeyExpansion
pub mod Sbox
pub mod State
pub mod Theorems
