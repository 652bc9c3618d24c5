pub mod Merging
pub mod SetMerging
mod Bounds
mod Places
mod Lasts
mod Searching
