pub mod NumberedStop
pub mod Position
pub mod Ran
