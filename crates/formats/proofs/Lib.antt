pub mod SummaryLaws
pub mod FoundLaws
pub mod PairLaws
pub mod FormatLaws
pub mod BitsLaws
pub mod ReadLaws
pub mod WalkLaws
