pub use Rattle.oct_ops.specs.Code
pub use Rattle.oct_ops.specs.Operation
pub use Rattle.oct_ops.specs.Operations
pub use Rattle.oct_ops.specs.Sets
pub use Rattle.oct_join.specs.Clock
pub mod Laws
pub mod Rows
pub mod Summary
