pub mod Bench
pub mod Scheme
pub mod Whitened
pub mod BenchLaws
pub mod WhitenedLaws
