pub mod Text
pub mod Framing
pub mod Told
