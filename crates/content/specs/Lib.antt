pub mod Content
pub mod KeyLaws
pub mod NumberLaws
pub mod PickLaws
pub mod InsideLaws
pub mod WholeLaws
