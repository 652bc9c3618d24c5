pub use Rattle.oct_code.specs.Code
pub mod BySets
pub mod Cells
pub mod Certain
pub mod Fields
pub mod Found
pub mod Known
