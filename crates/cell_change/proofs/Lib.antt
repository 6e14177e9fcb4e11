pub mod CountsLaws
pub mod AddedLaws
pub mod Moving
pub mod Freeing
pub mod Once
