pub mod Ascii
pub mod Floats
pub mod Items
mod Opening
pub mod Spelled
