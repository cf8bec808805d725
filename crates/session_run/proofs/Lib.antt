pub mod RunLaws
pub mod MemoryLaws
pub mod Top
