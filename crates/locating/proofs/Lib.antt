pub mod ChunkExamples
pub mod GateLaws
pub mod StepLaws
