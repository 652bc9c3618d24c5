pub use Rattle.oct_ops.specs.Operations
pub mod Names
pub mod Remarks
pub mod Sheet
pub mod Summary
