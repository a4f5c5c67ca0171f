pub mod Words
pub mod WayLaws
pub mod WordsLaws
