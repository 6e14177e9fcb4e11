pub mod CellLaws
pub mod CountLaws
pub mod EntryLaws
pub mod WholeListLaws
pub mod ComeLaws
pub mod Once
