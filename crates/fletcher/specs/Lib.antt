pub mod Fletcher
pub mod Plain
