pub mod NameLaws
pub mod TurnLaws
pub mod ElementsLaws
pub mod FrameLaws
pub mod AccountLaws
pub mod JudgeLaws
pub mod LentLaws
pub mod Once
