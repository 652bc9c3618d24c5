mod Grown
pub mod Numerals
mod Reading
mod ReadingDots
mod ReadingNames
pub mod Spelled
pub mod Valid
