-- Laws that the proofs share, here and in the crates above.
pub mod GatherLaws
pub mod RowLaws
pub mod CallLaws
pub mod ResolvedLaws
pub mod ResolvesLaws
