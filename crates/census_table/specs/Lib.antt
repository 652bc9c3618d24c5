pub mod Fitting
pub mod FittingLaws
pub mod LinePlaces
pub mod Looks
pub mod Table
