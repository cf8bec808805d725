-- Laws that the proofs share, here and in the crates above.
pub mod Binds
pub mod AddressLaws
pub mod KindsLaws
pub mod Reaches
