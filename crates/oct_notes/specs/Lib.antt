pub use Rattle.oct_ops.specs.Operation
pub use Rattle.oct_ops.specs.Operations
pub use Rattle.oct_ops.specs.Sets
pub mod Laws
pub mod Leads
pub mod Notes
