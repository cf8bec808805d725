-- Laws that the proofs share, here and in the crates above.
pub mod Ends
pub mod Reaches
pub mod WritesLaws
pub mod Exchange
pub mod Condition
