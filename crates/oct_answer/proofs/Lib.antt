mod Gathered
mod Leaving
mod Listing
mod Packed
