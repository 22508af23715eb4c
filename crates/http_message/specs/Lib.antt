pub mod Limits
pub mod Fields
pub mod Extents
pub mod Chunks
pub mod Steps
pub mod Trailers
