pub mod Decoding
pub mod Encoding
pub mod Splitting
pub mod Answering
pub mod ReadBack
