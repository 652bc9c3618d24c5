pub mod Claiming
pub mod Extending
pub mod Finding
pub mod FoundObjects
pub mod Imported
pub mod Issuing
pub mod Turns
