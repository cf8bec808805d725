-- Laws that the proofs share, here and in the crates above.
pub mod CodeLaws
pub mod DeclarationLaws
