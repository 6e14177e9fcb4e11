pub mod Format
pub mod Bits
pub mod Summary
