pub mod Accepts
pub mod Frames
pub mod Laws
pub mod OneKind
