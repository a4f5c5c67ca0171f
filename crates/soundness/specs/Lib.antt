pub mod Examining
pub mod LeafLaws
pub mod ItemLaws
