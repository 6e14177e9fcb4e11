pub mod ToldLaws
mod SmallLaws
pub mod Once
