pub mod LineEnds
pub mod Listing
pub mod Numerals
pub mod Places
mod ReadingBack
pub mod WordEnds
