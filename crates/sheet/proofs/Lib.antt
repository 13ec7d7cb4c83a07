pub mod Chunks
pub mod Filling
