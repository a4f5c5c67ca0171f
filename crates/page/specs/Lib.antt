pub mod Judged
pub mod JudgedLaws
pub mod PassedLaws
