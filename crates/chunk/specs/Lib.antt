pub mod Image
pub mod Chunk
pub mod ImageLaws
pub mod ChunkLaws
