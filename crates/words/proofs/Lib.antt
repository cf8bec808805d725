-- Laws that the proofs share.
pub mod Signs
pub mod Casts
pub mod Equal
pub mod Shifts
pub mod Literal
pub mod Gaps
pub mod Units
pub mod Distances
pub mod Closest
pub mod Rounds
pub mod Cuts
