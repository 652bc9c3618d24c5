pub use Rattle.oct_ops.specs.Operations
pub mod Cells
pub mod Literals
pub mod Schema
pub mod Script
