pub use Rattle.oct_sheet.specs.Sheet
pub mod Line
pub mod Overview
pub mod Said
pub mod Tables
