pub mod Joined
pub mod Members
mod Escaping
