mod Asked
pub mod Moves
mod Outcomes
mod Shelves
