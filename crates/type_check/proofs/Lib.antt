-- Laws that the proofs share, here and in the crates above.
pub mod Searches
pub mod FrameLaws
pub mod Looked
pub mod CheckLaws
pub mod NameLaws
