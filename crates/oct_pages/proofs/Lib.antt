pub use Rattle.oct_text.proofs.Members
pub mod Rows
pub mod Held
pub mod Lines
pub mod GameParts
pub mod Building
pub mod BuiltGames
pub mod InGames
pub mod Keys
pub mod RestLines
mod GroupLaws
mod Pushing
pub mod SheetLaws
mod Pagers
mod Flowing
