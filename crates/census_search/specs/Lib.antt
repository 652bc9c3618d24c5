pub mod FirstGames
pub mod Positions
pub mod Resumed
pub mod SearchTexts
pub mod Searching
pub mod SoughtTexts
pub mod Windowed
