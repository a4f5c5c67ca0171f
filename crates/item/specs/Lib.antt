pub mod Step
pub mod Item
pub mod StepLaws
pub mod ItemLaws
pub mod CountLaws
