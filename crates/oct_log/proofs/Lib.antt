mod Changed
mod Differing
