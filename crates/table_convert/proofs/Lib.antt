pub mod WideLaws
pub mod WideCellLaws
pub mod StoreLaws
pub mod CellStoreLaws
pub mod ConvertLaws
pub mod Once
