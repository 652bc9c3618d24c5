pub use Rattle.oct_ops.specs.Operations
pub mod Diff
pub mod DiffLaws
pub mod Log
pub mod Status
pub mod Twice
