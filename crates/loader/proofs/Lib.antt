-- What the crates above cite of accepted tables (Loaded), and laws that the proofs here share.
pub mod Loaded
pub mod ExpressionLaws
pub mod LooksLaws
