pub mod Forms
mod Growing
mod Kept
mod Near
mod Words
