pub mod BuildLaws
pub mod BuiltLaws
pub mod Once
