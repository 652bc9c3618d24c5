pub mod Chunked
pub mod Left
