pub mod Bits
mod Framing
mod Parts
mod Turned
pub mod Words
