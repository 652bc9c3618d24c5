pub mod Accepted
pub mod CodeLaws
pub mod Members
mod Parsed
mod Reading
mod Spelled
mod Written
