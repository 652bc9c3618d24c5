pub mod Covered
pub mod Spans
