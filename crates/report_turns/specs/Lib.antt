pub mod Report
pub mod Next
pub mod Serve
pub mod Turns
pub mod Pieces
pub mod Buffers
pub mod Talk
pub mod Example
