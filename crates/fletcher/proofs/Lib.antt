pub mod Laws
pub mod EditionLaws
pub mod PlainLaws
