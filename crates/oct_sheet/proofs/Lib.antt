mod FoundNames
pub mod Pushing
pub mod Streamed
