pub mod HeadLaws
pub mod RowsLaws
pub mod Once
