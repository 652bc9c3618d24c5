pub mod Authors
mod Counts
mod Groups
mod Kept
pub mod Greatest
pub mod Throughs
