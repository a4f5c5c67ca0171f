pub mod Stepping
pub mod Given
pub mod WalkLaws
