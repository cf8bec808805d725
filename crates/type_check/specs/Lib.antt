pub mod Frame
pub mod Looked
pub mod Check
pub mod Names
