pub mod Checking
pub mod Decisions
pub mod Outcomes
pub mod Shifts
pub mod Verdicts
