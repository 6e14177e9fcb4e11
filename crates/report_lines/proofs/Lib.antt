pub mod TextLaws
pub mod RowLaws
pub mod LineLaws
pub mod FrameLaws
pub mod Framed
pub mod Spelt
pub mod Once
