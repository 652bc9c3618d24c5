pub mod HeldFiles
pub mod Outcomes
pub mod RightlyTold
pub mod Searches
pub mod WrongLines
