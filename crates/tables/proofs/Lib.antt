-- Laws that the proofs share, here and in the crates above.
pub mod Index
pub mod Cases
pub mod FirstLaws
pub mod SumLaws
pub mod Passed
pub mod TreeLaws
pub mod EndsLaws
pub mod LookupLaws
pub mod MarksLaws
pub mod CellsLaws
pub mod RowsLaws
