pub mod Segments
pub mod Within
pub mod Samples
