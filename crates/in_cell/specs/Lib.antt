pub mod Step
pub mod Stop
pub mod Second
