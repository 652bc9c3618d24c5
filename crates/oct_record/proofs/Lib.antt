pub mod Along
pub mod Beside
mod Removing
pub mod StateTexts
