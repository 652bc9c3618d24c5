pub use Rattle.oct_code.specs.CodeText
pub use Rattle.oct_ops.specs.Operation
pub mod Escape
pub mod EscapeLaws
pub mod Pieces
pub mod Words
