pub mod Account
pub mod Readers
