mod Ending
mod Lookup
pub mod Answered
pub mod Filings
pub mod Growing
pub mod Keeping
pub mod KnownLaws
pub mod Searching
pub mod Verdicts
