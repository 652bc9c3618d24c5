pub mod Left
pub mod Snapshots
