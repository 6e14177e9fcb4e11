pub mod CriticalityLaws
pub mod ElementLaws
pub mod LengthLaws
pub mod StepLaws
pub mod WalkLaws
pub mod GivenLaws
pub mod Once
pub mod HeadLaws
