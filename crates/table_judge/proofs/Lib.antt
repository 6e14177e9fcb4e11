pub mod ReadLaws
pub mod PiecesLaws
pub mod PassedLaws
pub mod WalkLaws
pub mod OrderLaws
pub mod JudgeLaws
pub mod PlacesLaws
pub mod Once
