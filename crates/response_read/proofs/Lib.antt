pub mod MeantLaws
pub mod AnswerLeftLaws
pub mod ResponseTakenLaws
pub mod Once
