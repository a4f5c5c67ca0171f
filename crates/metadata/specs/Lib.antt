pub mod Answers
pub mod Descent
pub mod DescentLaws
pub mod IdLaws
pub mod Keys
pub mod KeyLaws
