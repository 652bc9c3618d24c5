mod CodeTexts
pub mod Merging
mod Rejoining
mod Renumbering
pub mod Rounds
mod SomeGames
pub mod Stepping
mod StateLengths
pub mod StoredStates
mod Uniting
