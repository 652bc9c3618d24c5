pub mod Laws
pub mod Noting
pub mod Rechecking
