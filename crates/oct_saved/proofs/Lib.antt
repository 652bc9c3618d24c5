pub mod Alike
pub mod Bytes
pub mod Codes
pub mod Fronts
pub mod Same
pub mod Texts
pub mod Words
