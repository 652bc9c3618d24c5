pub mod Begun
pub mod Compared
pub mod Held
pub mod Marking
pub mod RowReads
mod Sets
pub mod Shown
pub mod Trails
pub mod Watching
