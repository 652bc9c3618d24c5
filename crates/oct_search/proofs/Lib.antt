pub mod BySets
pub mod CellReads
pub mod Certificates
pub mod Copied
