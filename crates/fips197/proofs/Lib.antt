pub mod Linear
pub mod Steps
pub mod Mixes
pub mod Inverse
pub mod Keys
pub mod Rounds
