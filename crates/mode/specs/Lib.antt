pub mod Hash
pub mod Keys
pub mod Padding
pub mod Sealing
pub mod Stream
pub mod Theorems
pub mod Worked
