pub mod WriteSet
pub mod Sound
