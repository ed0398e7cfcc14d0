pub mod Hashes
pub mod Inverts
pub mod Pads
pub mod Seals
pub mod Streams
