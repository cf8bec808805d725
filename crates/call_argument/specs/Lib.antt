pub mod Argument
pub mod Vectors
pub mod Errors
pub mod Resolved
pub mod Resolve
