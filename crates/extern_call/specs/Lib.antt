pub mod Gather
pub mod Inner
pub mod Call
pub mod Rows
