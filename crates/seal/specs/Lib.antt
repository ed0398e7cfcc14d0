pub mod Answers
pub mod Sizes
pub mod Watching
pub mod Wrapping
