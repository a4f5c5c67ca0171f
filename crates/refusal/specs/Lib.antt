pub mod Refusal
pub mod TableLaws
