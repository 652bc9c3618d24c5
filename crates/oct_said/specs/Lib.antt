pub mod Dots
pub mod Laws
pub mod Lines
pub mod Names
pub mod Noting
pub mod Said
