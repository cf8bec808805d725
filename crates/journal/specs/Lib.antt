pub mod Each
pub mod Position
pub mod Cells
pub mod Entries
pub mod Restore
