pub mod Asking
pub mod JsonLines
pub mod Moving
pub mod Overview
pub mod Questions
pub mod Site
pub mod Viewing
