pub mod Searching
mod LentLaws
mod Walking
mod ReachedLaws
mod WalkSteps
mod WalkItems
mod CallLaws
mod GrantLaws
pub mod Once
