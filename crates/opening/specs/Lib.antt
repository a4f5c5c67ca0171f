pub mod Opening
pub mod ChainLaws
pub mod OpeningLaws
