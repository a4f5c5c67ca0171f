pub mod Locating
pub mod Known
