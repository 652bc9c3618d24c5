mod Rows
pub mod Codecs
mod Loops
mod Chains
mod Ranges
mod Formats
mod Rising
mod Lists
mod Removals
pub mod Deltas
pub mod Written
pub mod Sizes
pub mod ClockTexts
mod Streams
mod OneByOne
mod Wholes
mod Pieces
mod Numbers
mod Bounds
mod Decoded
mod Ended
mod Fed
mod Notes
mod Cut
pub mod Spelled
