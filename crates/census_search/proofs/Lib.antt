pub mod FirstGames
mod Pieces
mod SearchFaults
