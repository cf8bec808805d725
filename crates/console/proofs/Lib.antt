-- Laws that the proofs share.
pub mod Facts
pub mod FrameCount
