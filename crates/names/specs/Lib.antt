pub mod Names
pub mod Tree
pub mod PartsLaws
pub mod NameAtLaws
pub mod SeekLaws
pub mod TreeLaws
pub mod DistinctLaws
pub mod JudgeLaws
