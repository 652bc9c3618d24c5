pub mod Answers
pub mod Asked
pub mod Checked
pub mod Files
pub mod FirstGame
pub mod Telling
