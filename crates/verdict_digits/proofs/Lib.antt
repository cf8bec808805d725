-- Laws that the proofs share.
pub mod RowLaws
