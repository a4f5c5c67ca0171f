pub mod Theorem
pub mod Walked
