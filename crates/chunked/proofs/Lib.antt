pub mod Chunking
pub mod Joining
pub mod Lists
