pub mod Examine
pub mod Demand3
