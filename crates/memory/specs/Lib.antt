pub mod References
pub mod Batch
pub mod Walk
pub mod Reader
