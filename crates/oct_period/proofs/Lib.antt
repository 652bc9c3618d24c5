pub mod Added
pub mod Afters
pub mod FarLaws
pub mod FarVerdicts
pub mod Finding
pub mod FirstBreaks
pub mod FirstProved
pub mod FoundPeriods
pub mod HeapValues
pub mod Leavings
pub mod MoveOrder
pub mod NearSplits
pub mod Play
mod Rows
pub mod Statuses
pub mod Winners
pub mod Xor
