pub mod Answer
pub mod Check
pub mod Frame
pub mod Resolve
pub mod Access
pub mod References
