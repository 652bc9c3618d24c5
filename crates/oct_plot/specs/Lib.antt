pub mod Axes
pub mod Plot
pub mod PlotLaws
pub mod Points
pub mod Rows
pub mod Sentence
pub mod Style
