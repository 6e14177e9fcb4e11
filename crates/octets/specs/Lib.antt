pub mod Runs
pub mod Numbers
pub mod Fields
pub mod Turned
pub mod Joined
pub mod Settled
