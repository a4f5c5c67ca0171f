pub mod Instances
pub mod Laws
