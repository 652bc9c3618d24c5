pub mod Advancing
pub mod Arriving
pub mod Cutting
pub mod Exchange
pub mod Framing
pub mod Gathering
pub mod Giving
pub mod Greeting
pub mod Owing
pub mod Packed
pub mod Packing
pub mod Payloads
mod Rows
pub mod Running
pub mod Splitting
pub mod Stepping
pub mod Taking
pub mod Wanting
pub mod Written
mod Feeding
mod Settling
