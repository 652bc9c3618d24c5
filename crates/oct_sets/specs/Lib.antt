pub mod Plans
pub mod Sets
