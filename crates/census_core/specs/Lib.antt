pub mod Moved
pub mod Performed
pub mod Reaching
