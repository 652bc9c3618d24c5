pub use Rattle.oct_ops.specs.Operations
pub use Rattle.oct_sheet.specs.Sheet
pub mod Columns
pub mod Game
pub mod Index
pub mod Report
pub mod StyleLaws
pub mod Styles
