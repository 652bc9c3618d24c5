pub mod Beside
mod Complete
mod Deliveries
pub mod Headline
pub mod Inserting
mod Lines
mod Places
mod Rows
mod Schedules
pub mod Settled
mod Worlds
mod Shown
