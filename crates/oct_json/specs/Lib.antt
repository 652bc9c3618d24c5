pub use Rattle.oct_sheet.specs.Sheet
pub mod Json
pub mod Said
