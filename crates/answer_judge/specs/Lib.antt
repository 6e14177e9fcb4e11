pub mod Answerable
pub mod OnePass
