pub mod Surface
pub mod Promises
