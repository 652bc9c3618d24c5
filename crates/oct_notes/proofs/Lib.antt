pub mod Arranging
pub mod Held
pub mod Kept
pub mod Leading
pub mod Lives
pub mod Rows
pub mod Searching
pub mod Unremoved
