pub mod Walk
pub mod Steps
pub mod StateLaws
pub mod EntryLaws
